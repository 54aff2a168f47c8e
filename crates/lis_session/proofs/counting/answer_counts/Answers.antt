use Rattle.std.proofs.Common.{refl}
use Rattle.lis_session.proofs.InTurn.{in_a_row, passed_on}
use Rattle.lis_session.proofs.counting.answer_counts.Goals as goal

pub returns-in_err-answer_count : goal.returns-in_err-answer_count
returns-in_err-answer_count g c = passed_on _ c.in_err-answer_count.ensures c.from_residual.ensures.1 refl

pub returns-in_err-answer_count-2 : goal.returns-in_err-answer_count-2
returns-in_err-answer_count-2 g c = in_a_row c.in_ok-answer_count.ensures (passed_on _ c.in_err-answer_count-2.ensures c.from_residual-in_err-answer_count-2.ensures.1 refl) refl

pub returns-in_err-answer_count-3 : goal.returns-in_err-answer_count-3
returns-in_err-answer_count-3 g c =
    in_a_row c.in_ok-answer_count.ensures (in_a_row c.in_ok-answer_count-2.ensures (passed_on _ c.in_err-answer_count-3.ensures c.from_residual-in_err-answer_count-3.ensures.1 refl) refl) refl

pub returns-in_err-answer_count-4 : goal.returns-in_err-answer_count-4
returns-in_err-answer_count-4 g c =
    in_a_row c.in_ok-answer_count.ensures (in_a_row c.in_ok-answer_count-2.ensures (in_a_row c.in_ok-answer_count-3.ensures
    (passed_on _ c.in_err-answer_count-4.ensures c.from_residual-in_err-answer_count-4.ensures.1 refl) refl) refl) refl

pub returns : goal.returns
returns g c =
    in_a_row c.in_ok-answer_count.ensures (in_a_row c.in_ok-answer_count-2.ensures (in_a_row c.in_ok-answer_count-3.ensures (in_a_row c.in_ok-answer_count-4.ensures c.answer_ok.ensures refl) refl) refl) refl
