use Rattle.std.proofs.Common.{refl}
use Rattle.lis_session.proofs.InTurn.{in_a_row, passed_on}
use Rattle.lis_session.proofs.replies.answer_place.Goals as goal

pub returns-in_err-answer_line : goal.returns-in_err-answer_line
returns-in_err-answer_line g c = passed_on _ (rw (c.bytes.ensures.bytes, c.print.ensures) at c.in_err-answer_line.ensures) c.from_residual.ensures.1 refl

pub returns : goal.returns
returns g c = in_a_row (rw (c.bytes.ensures.bytes, c.print.ensures) at c.in_ok-answer_line.ensures) c.answer_ok.ensures refl
