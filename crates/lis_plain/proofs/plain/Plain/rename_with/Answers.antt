use Rattle.std.proofs.Common.{rules, ◌≡◌, ap, subst}
use Rattle.lis_model.specs.State.{File}
use Rattle.lis_model.specs.Changes.{file_replaced}
use Rattle.lis_model.specs.Step.{judged, changed, rename_checks}
use Rattle.lis_plain.specs.Carries.{IsAnswered, Says}
use Rattle.lis_plain.proofs.plain.Plain.rename_with.Goals as goal

pub returns : goal.returns
returns c =
    let now = c.args.self.now in let old = c.args.old.now in let new = c.args.new.now in
    let is : c.in_ok-made.made ≡ file_replaced now.state old.name new = search rules in
    let says : Says (rename_checks now old.name new c.in_ok-made.made) c.in_ok-answer.answer =
    subst (λ name. Says (rename_checks now name new c.in_ok-made.made) c.in_ok-answer.answer) (ap (λ (file : File). file.name) c.old.view_is) c.in_ok-answer.ensures in
    subst (λ m. IsAnswered (judged now (rename_checks now old.name new m) (changed now m)) now c.settle.new.self c.settle.result) is (c.settle.ensures (rename_checks now old.name new c.in_ok-made.made) says)
