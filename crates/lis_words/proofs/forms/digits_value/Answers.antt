use Rattle.std.proofs.Common.{arith}
use Rattle.lis_words.proofs.Parts.{digit_fits, digits_below}
use Rattle.lis_words.proofs.forms.digits_value.Goals as goal

pub overflow_mul-n : goal.overflow_mul-n
overflow_mul-n c =
    let below = digit_fits c.loop-digit.n c.loop-digit.digit-index c.loop-digit.invariant.below (omega arith) in
    omega arith

pub overflow_add-n : goal.overflow_add-n
overflow_add-n c =
    let below = digit_fits c.loop-digit.n c.loop-digit.digit-index c.loop-digit.invariant.below (omega arith) in
    omega arith

pub returns-clause-below : goal.returns-clause-below
returns-clause-below c = digits_below c.loop-digit.n c.loop-digit.digit-index c.loop-digit.invariant.below (omega arith)
