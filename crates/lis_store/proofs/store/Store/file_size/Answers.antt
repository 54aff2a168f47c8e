use Rattle.lis_store.proofs.Common.{◌∙◌, sym, ap, rec_at, rec_at-slot_of, Metadata}
use Rattle.lis_store.proofs.store.Store.file_size.Goals as goal

pub unreachable-requires : goal.unreachable-requires
unreachable-requires c =
    let found = rec_at-slot_of c.args.self.now.metadata.catalog c.requires.0 c.args.slot c.metadata.ensures.sound.metadata.catalog c.requires.1 in
    let none = ap (λ (k : Metadata). rec_at k.catalog c.args.slot) (sym c.metadata.ensures.value) ∙ c.in_default.ensures in
    let both = sym found.1 ∙ none in
    cc
