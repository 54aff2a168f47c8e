use Rattle.std.proofs.Common.{rules, ◌≡◌, subst}
use Rattle.lis_model.specs.Changes.{file_removed}
use Rattle.lis_model.specs.Step.{judged, changed, here_checks}
use Rattle.lis_plain.specs.Carries.{IsAnswered}
use Rattle.lis_plain.proofs.plain.Plain.rm.Goals as goal

pub returns : goal.returns
returns c =
    let now = c.args.self.now in let name = c.args.name.now in
    let is : c.in_ok-made.made ≡ file_removed now.state name = search rules in
    subst (λ m. IsAnswered (judged now (here_checks now name) (changed now m)) now c.settle.new.self c.settle.result) is (c.settle.ensures (here_checks now name) c.in_ok-answer.ensures)
