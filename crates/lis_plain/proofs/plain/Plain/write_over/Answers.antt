use Rattle.std.proofs.Common.{rules, ◌≡◌, subst}
use Rattle.lis_model.specs.Changes.{file_replaced}
use Rattle.lis_model.specs.Step.{judged, changed, write_checks}
use Rattle.lis_plain.specs.Carries.{IsAnswered}
use Rattle.lis_plain.proofs.plain.Plain.write_over.Goals as goal

pub returns : goal.returns
returns c =
    let now = c.args.self.now in let old = c.args.old.now in let new = c.args.new.now in
    let is : c.in_ok-made.made ≡ file_replaced now.state old.name new = search rules in
    subst (λ m. IsAnswered (judged now (write_checks now old m c.args.size) (changed now m)) now c.settle.new.self c.settle.result) is (c.settle.ensures (write_checks now old c.in_ok-made.made c.args.size) c.in_ok-answer.ensures)
