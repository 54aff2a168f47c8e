use Rattle.lis_store.proofs.Common.{◌∙◌, sym, ap, option_map, slice_get, Filed}
use Rattle.lis_store.specs.Stored.{Stored}
use Rattle.lis_store.proofs.FilesHere.{file_seen}
use Rattle.lis_store.proofs.store.StoreView.file_at.Goals as goal

pub returns : goal.returns
returns c =
    let entries = c.args.self.now.metadata.catalog.entries in
    c.file_at.ensures
    ∙ (ap (λ (j : Stored). option_map (λ (f : Filed). (f.rec.name, f.slot)) (slice_get j.metadata.catalog.entries c.args.k)) c.self.view_is
    ∙ sym (file_seen c.args.self.now.metadata entries c.args.k))
