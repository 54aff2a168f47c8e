use Rattle.std.proofs.Common.{ap}
use Rattle.std.specs.List.{flat_map}
use Rattle.lis_model.specs.Replies.{body_line}
use Rattle.lis_session.proofs.InTurn.{text_more, text_broke}
use Rattle.lis_session.proofs.route.answer_steps.Goals as goal

pub loop-word-preserved : goal.loop-word-preserved
loop-word-preserved g c = text_more c.loop-word.invariant (ap (flat_map (body_line 100)) c.in-Some.ensures) (rw c.bytes.ensures.bytes at c.in_ok-answer_line.ensures)

pub returns-in_err-answer_line : goal.returns-in_err-answer_line
returns-in_err-answer_line g c =
    text_broke _ c.loop-word.invariant (ap (flat_map (body_line 100)) c.in-Some.ensures) (rw c.bytes.ensures.bytes at c.in_err-answer_line.ensures) c.from_residual.ensures.1
