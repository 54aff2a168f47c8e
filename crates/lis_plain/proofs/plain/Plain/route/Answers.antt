use Rattle.std.proofs.Common.{◌≡◌, length, filter, ap, ◌∙◌}
use Rattle.std.proofs.lemmas.Result.{IfOk-weaker}
use Rattle.lis_model.specs.Table.{Table, Entry, table}
use Rattle.lis_model.specs.Listing.{holds_all, extension}
use Rattle.lis_model.specs.Step.{entry_at}
use Rattle.lis_table.specs.Routes.{route_from}
use Rattle.lis_table.proofs.Routes.{route_of}
use Rattle.lis_plain.proofs.plain.Plain.route.Goals as goal

pub returns : goal.returns
returns c =
    let now = c.args.self.now in
    let t = table now.state in
    let here = extension t now.place in
    let table_is : c.in_ok-table.table ≡ t = c.in_ok-table.ensures ∙ ap table c.state.ensures in
    let files_are : c.in_ok-files.files.items ≡ here =
    c.in_ok-files.ensures
    ∙ (ap (λ p. filter (holds_all p) c.deref.result.now) c.place.ensures
    ∙ ap (filter (holds_all now.place)) (c.deref.ensures.value ∙ ap (λ (u : Table). u.files) (c.table.view_is ∙ table_is))) in
    IfOk-weaker c.route.result _ _
    (λ words told. told
    ∙ (ap (λ files. route_from (length files) c.in_ok-table.table files c.in_ok-file.file) files_are
    ∙ (ap (λ (u : Table). route_from (length here) u here c.in_ok-file.file) table_is
    ∙ (ap (λ (file : Entry). route_from (length here) t here file) c.in_ok-file.ensures ∙ route_of t now.place (entry_at now.state c.args.name.now)))))
    c.route.ensures
