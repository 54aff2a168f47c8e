use Rattle.std.proofs.Common.{rules, ◌≡◌, subst}
use Rattle.lis_model.specs.Changes.{axiom_added}
use Rattle.lis_model.specs.Step.{judged, changed, axiom_checks}
use Rattle.lis_plain.specs.Carries.{IsAnswered}
use Rattle.lis_plain.proofs.plain.Plain.add_axiom.Goals as goal

pub returns : goal.returns
returns c =
    let now = c.args.self.now in let pair = c.args.pair.now in
    let is : c.in_ok-made.made ≡ axiom_added now.state pair = search rules in
    subst (λ m. IsAnswered (judged now (axiom_checks now.state pair m) (changed now m)) now c.settle.new.self c.settle.result) is (c.settle.ensures (axiom_checks now.state pair c.in_ok-made.made) c.in_ok-answer.ensures)
