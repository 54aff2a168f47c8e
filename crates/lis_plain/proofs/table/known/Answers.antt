use Rattle.std.proofs.Common.{rules, ◌≡◌, map, ◌∙◌}
use Rattle.std.proofs.lemmas.Result.{IfOk-weaker}
use Rattle.lis_model.specs.Table.{entry_of}
use Rattle.lis_table.specs.Tables.{known_of}
use Rattle.lis_plain.proofs.Entries.{known_made}
use Rattle.lis_plain.proofs.table.known.Goals as goal

pub returns : goal.returns
returns c =
    IfOk-weaker c.known_words.result _ _
    (λ words told. let is : words.items ≡ known_of c.args.state.now.declared c.args.state.now.axioms (map (entry_of c.args.state.now.declared c.args.state.now.axioms) c.args.state.now.files) = search rules in
    is ∙ known_made c.args.state.now)
    c.known_words.ensures
