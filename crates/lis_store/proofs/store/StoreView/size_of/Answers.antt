use Rattle.lis_store.proofs.Common.{◌∙◌, sym, ap, rec_at, FileRecord}
use Rattle.lis_store.specs.Stored.{Stored}
use Rattle.lis_store.proofs.FilesHere.{none_seen, size_seen}
use Rattle.lis_store.proofs.store.StoreView.size_of.Goals as goal

pub returns-in-None : goal.returns-in-None
returns-in-None c =
    let k = c.args.self.now.metadata in
    absurd (none_seen k c.args.slot k.catalog.entries (ap (λ (j : Stored). rec_at j.metadata.catalog c.args.slot) (sym c.self.view_is) ∙ c.in-None.ensures) c.requires)

pub returns-in-Some : goal.returns-in-Some
returns-in-Some c =
    let k = c.args.self.now.metadata in
    size_seen k c.args.slot c.in-Some.rec.now c.from.result k.catalog.entries (ap (λ (j : Stored). rec_at j.metadata.catalog c.args.slot) (sym c.self.view_is) ∙ c.in-Some.ensures)
    (c.from.ensures ∙ ap (λ (r : FileRecord). r.size) c.rec-in-Some.view_is)
