use Rattle.std.proofs.Common.{rules, ◌≡◌, [], ◌∷◌, ap, ◌∙◌}
use Rattle.std.proofs.lemmas.Result.{IfOk-weaker}
use Rattle.lis_model.specs.State.{all_up}
use Rattle.lis_table.proofs.Closing.{up_alone}
use Rattle.lis_table.proofs.closure.up.Goals as goal

pub returns : goal.returns
returns c =
    let alone : c.deref.result.now ≡ c.args.word.now ∷ [] = search rules in
    IfOk-weaker c.all_up.result _ _
    (λ all told. told ∙ (ap (all_up c.args.declared.now c.args.axioms.now) alone ∙ up_alone c.args.declared.now c.args.axioms.now c.args.word.now))
    c.all_up.ensures
