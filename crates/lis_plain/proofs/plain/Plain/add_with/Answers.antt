use Rattle.std.proofs.Common.{rules, ◌≡◌, subst}
use Rattle.lis_model.specs.Changes.{file_added}
use Rattle.lis_model.specs.Step.{judged, changed, add_checks}
use Rattle.lis_plain.specs.Carries.{IsAnswered}
use Rattle.lis_plain.proofs.plain.Plain.add_with.Goals as goal

pub returns : goal.returns
returns c =
    let now = c.args.self.now in let words = c.args.words.now in let file = c.args.file.now in
    let is : c.in_ok-made.made ≡ file_added now.state file = search rules in
    subst (λ m. IsAnswered (judged now (add_checks now words file m c.args.size) (changed now m)) now c.settle.new.self c.settle.result) is (c.settle.ensures (add_checks now words file c.in_ok-made.made c.args.size) c.in_ok-answer.ensures)
