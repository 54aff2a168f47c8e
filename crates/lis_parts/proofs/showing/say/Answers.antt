use Rattle.lis_parts.proofs.Saying.{says_broke, says_shown}
use Rattle.lis_parts.proofs.showing.say.Goals as goal

pub returns-in_err-flush : goal.returns-in_err-flush
returns-in_err-flush g c = says_broke c.in_err-flush.ensures.shows c.from_residual.ensures.1

pub returns-then-bytes-gt-ROOM : goal.returns-then-bytes-gt-ROOM
returns-then-bytes-gt-ROOM g c = says_shown c.in_ok-flush.ensures.shows c.in_ok-flush.ensures.empty c.answer_bytes.ensures
