use Rattle.std.proofs.Common.{rules, ◌≡◌, map, ◌∙◌}
use Rattle.std.proofs.lemmas.Result.{IfOk-weaker}
use Rattle.lis_model.specs.Table.{entry_of}
use Rattle.lis_table.specs.Tables.{table_of}
use Rattle.lis_plain.proofs.Entries.{table_made}
use Rattle.lis_plain.proofs.table.make_table.Goals as goal

pub returns : goal.returns
returns c =
    IfOk-weaker c.table_of.result _ _
    (λ made told. let is : made ≡ table_of c.args.state.now.limits c.args.state.now.declared c.args.state.now.axioms (map (entry_of c.args.state.now.declared c.args.state.now.axioms) c.args.state.now.files) = search rules in
    is ∙ table_made c.args.state.now)
    c.table_of.ensures
