use Rattle.lis_bits.proofs.Bits.{set_bit, clear_bit}
use Rattle.lis_bits.proofs.words.with_bit.Goals as goal

pub returns-then-value : goal.returns-then-value
returns-then-value c = λ k lt. rw c.if-value.true (set_bit c.args.word c.args.bit k c.requires)

pub returns-else-value : goal.returns-else-value
returns-else-value c = λ k lt. rw c.if-value.false (clear_bit c.args.word c.args.bit k c.requires lt)
