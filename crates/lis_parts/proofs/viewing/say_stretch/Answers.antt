use Rattle.std.proofs.Common.{option_copied, refl}
use Rattle.lis_parts.specs.Viewing.{shown_text}
use Rattle.lis_parts.proofs.Saying.{says_then, says_front}
use Rattle.lis_parts.proofs.viewing.say_stretch.Goals as goal

pub returns-in_err-say_mark : goal.returns-in_err-say_mark
returns-in_err-say_mark g c = says_front (shown_text (option_copied c.args.stretch.now.shown)) c.in_err-say_mark.ensures c.from_residual.ensures.1 refl

pub returns : goal.returns
returns g c = says_then c.in_ok-say_mark.ensures c.say_shown.ensures refl
