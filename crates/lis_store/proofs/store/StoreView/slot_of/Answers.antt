use Rattle.lis_store.proofs.Common.{◌∙◌, sym, ap, slot_of}
use Rattle.lis_store.specs.Stored.{Stored}
use Rattle.lis_store.proofs.FilesHere.{slot_seen}
use Rattle.lis_store.proofs.store.StoreView.slot_of.Goals as goal

pub returns : goal.returns
returns c =
    let k = c.args.self.now.metadata in
    c.slot_of.ensures.slot ∙ (ap (λ (j : Stored). slot_of j.metadata.catalog c.args.name.now) c.self.view_is ∙ sym (slot_seen k c.args.name.now k.catalog.entries))
