use Rattle.std.proofs.Common.{rules, ◌≡◌, subst}
use Rattle.lis_model.specs.Changes.{axiom_removed}
use Rattle.lis_model.specs.Step.{judged, changed, unaxiom_checks}
use Rattle.lis_plain.specs.Carries.{IsAnswered}
use Rattle.lis_plain.proofs.plain.Plain.unaxiom.Goals as goal

pub returns : goal.returns
returns c =
    let now = c.args.self.now in let pair = c.args.pair.now in
    let is : c.in_ok-made.made ≡ axiom_removed now.state pair = search rules in
    subst (λ m. IsAnswered (judged now (unaxiom_checks now.state pair) (changed now m)) now c.settle.new.self c.settle.result) is (c.settle.ensures (unaxiom_checks now.state pair) c.unaxiom_row-answer.ensures)
