use Rattle.std.proofs.Common.{◌≡◌, filter, ap, ◌∙◌}
use Rattle.std.proofs.lemmas.Result.{IfOk-weaker}
use Rattle.lis_model.specs.Table.{Table, table}
use Rattle.lis_model.specs.Listing.{holds_all, extension}
use Rattle.lis_plain.proofs.Entries.{listing_of}
use Rattle.lis_plain.proofs.plain.Plain.listing.Goals as goal

pub returns : goal.returns
returns c =
    let now = c.args.self.now in
    let table_is : c.in_ok-table.table ≡ table now.state = c.in_ok-table.ensures ∙ ap table c.state.ensures in
    let files_are : c.in_ok-files.files.items ≡ extension (table now.state) now.place =
    c.in_ok-files.ensures
    ∙ (ap (λ p. filter (holds_all p) c.deref.result.now) c.place.ensures
    ∙ ap (filter (holds_all now.place)) (c.deref.ensures.value ∙ ap (λ (t : Table). t.files) (c.table.view_is ∙ table_is))) in
    IfOk-weaker c.listing.result _ _
    (λ reply told. told ∙ (ap (listing_of c.in_ok-table.table) (c.deref-2.ensures.value ∙ files_are) ∙ ap (λ (t : Table). listing_of t (extension (table now.state) now.place)) table_is))
    c.listing.ensures
