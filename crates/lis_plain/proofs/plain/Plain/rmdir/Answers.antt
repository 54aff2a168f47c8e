use Rattle.std.proofs.Common.{rules, ◌≡◌, subst}
use Rattle.lis_model.specs.Changes.{undeclared}
use Rattle.lis_model.specs.Step.{judged, changed, rmdir_checks}
use Rattle.lis_plain.specs.Carries.{IsAnswered}
use Rattle.lis_plain.proofs.plain.Plain.rmdir.Goals as goal

pub returns : goal.returns
returns c =
    let now = c.args.self.now in let word = c.args.word.now in
    let is : c.in_ok-made.made ≡ undeclared now.state word = search rules in
    subst (λ m. IsAnswered (judged now (rmdir_checks now.state word) (changed now m)) now c.settle.new.self c.settle.result) is (c.settle.ensures (rmdir_checks now.state word) c.in_ok-answer.ensures)
