use Rattle.std.proofs.Common.{rules, ◌≡◌, subst}
use Rattle.lis_model.specs.Changes.{file_added}
use Rattle.lis_model.specs.Step.{judged, changed, create_checks}
use Rattle.lis_plain.specs.Carries.{IsAnswered}
use Rattle.lis_plain.proofs.plain.Plain.create_with.Goals as goal

pub returns : goal.returns
returns c =
    let now = c.args.self.now in let words = c.args.words.now in let file = c.args.file.now in
    let is : c.in_ok-made.made ≡ file_added now.state file = search rules in
    subst (λ m. IsAnswered (judged now (create_checks now words file m) (changed now m)) now c.settle.new.self c.settle.result) is (c.settle.ensures (create_checks now words file c.in_ok-made.made) c.in_ok-answer.ensures)
