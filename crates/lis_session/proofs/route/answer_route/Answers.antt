use Rattle.std.proofs.Common.{refl}
use Rattle.lis_session.proofs.InTurn.{in_a_row, passed_on}
use Rattle.lis_session.proofs.route.answer_route.Goals as goal

pub returns-in_err-answer_steps : goal.returns-in_err-answer_steps
returns-in_err-answer_steps g c = passed_on _ (rw c.left_steps.ensures at c.in_err-answer_steps.ensures) c.from_residual.ensures.1 refl

pub returns : goal.returns
returns g c = in_a_row (rw c.left_steps.ensures at c.in_ok-answer_steps.ensures) c.answer_ok.ensures refl
