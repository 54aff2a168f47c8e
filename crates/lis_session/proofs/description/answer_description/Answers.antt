use Rattle.std.proofs.Common.{refl}
use Rattle.lis_session.proofs.InTurn.{in_a_row, passed_on}
use Rattle.lis_session.proofs.description.answer_description.Goals as goal

pub returns-in_err-answer_words : goal.returns-in_err-answer_words
returns-in_err-answer_words g c = passed_on _ c.in_err-answer_words.ensures c.from_residual.ensures.1 refl

pub returns : goal.returns
returns g c = in_a_row c.in_ok-answer_words.ensures c.answer_ok.ensures refl
