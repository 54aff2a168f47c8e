use Rattle.std.proofs.Common.{rules, ◌≡◌, ◌++◌, subst}
use Rattle.lis_model.specs.Changes.{file_replaced}
use Rattle.lis_model.specs.Step.{judged, changed, here_checks, mv_checks}
use Rattle.lis_plain.specs.Carries.{IsAnswered}
use Rattle.lis_plain.proofs.plain.Plain.mv_with.Goals as goal

pub returns : goal.returns
returns c =
    let now = c.args.self.now in let old = c.args.old.now in let new = c.args.new.now in
    let is : c.in_ok-made.made ≡ file_replaced now.state old.name new = search rules in
    subst (λ m. IsAnswered (judged now (here_checks now old.name ++ mv_checks now c.args.place.now c.args.words.now new m) (changed now m)) now c.settle.new.self c.settle.result) is (c.settle.ensures (here_checks now old.name ++ mv_checks now c.args.place.now c.args.words.now new c.in_ok-made.made) c.in_ok-answer.ensures)
