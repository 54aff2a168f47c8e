use Rattle.std.proofs.Common.{rules, ◌≡◌, subst}
use Rattle.lis_model.specs.Changes.{declared_under}
use Rattle.lis_model.specs.Step.{judged, changed, words_at, mkdir_checks}
use Rattle.lis_plain.specs.Carries.{IsAnswered}
use Rattle.lis_plain.proofs.plain.Plain.mkdir.Goals as goal

pub returns : goal.returns
returns c =
    let now = c.args.self.now in let word = c.args.word.now in
    let is : c.in_ok-made.made ≡ declared_under now.state word (words_at now.place) = search rules in
    subst (λ m. IsAnswered (judged now (mkdir_checks now word m) (changed now m)) now c.settle.new.self c.settle.result) is (c.settle.ensures (mkdir_checks now word c.in_ok-made.made) c.in_ok-answer.ensures)
