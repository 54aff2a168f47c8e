use Rattle.std.proofs.Common.{[], ◌∷◌, ◌∙◌, arith}
use Rattle.lis_parts.proofs.Saying.{says_then, says_front}
use Rattle.lis_parts.proofs.Viewed.{some_mark}
use Rattle.lis_parts.proofs.viewing.say_mark.Goals as goal

pub returns-in_err-say : goal.returns-in_err-say
returns-in_err-say g c = says_front (10 ∷ []) (rw (c.as_slice.ensures.value ∙ c.mark.ensures) at c.in_err-say.ensures) c.from_residual.ensures.1 (some_mark c.args.number c.args.hidden (omega arith))

pub returns : goal.returns
returns g c = says_then (rw (c.as_slice.ensures.value ∙ c.mark.ensures) at c.in_ok-say.ensures) c.say-2.ensures (some_mark c.args.number c.args.hidden (omega arith))
