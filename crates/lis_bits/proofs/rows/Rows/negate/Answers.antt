use Rattle.std.proofs.Common.{◌≡◌, not, rules}
use Rattle.std.specs.Int.{bit_not, w64}
use Rattle.lis_bits.proofs.Bits.{not_bit}
use Rattle.lis_bits.proofs.rows.Rows.negate.Goals as goal

pub returns : goal.returns
returns c = c.join.ensures (λ x _. not x) (λ a b word a_fits b_fits is bit lt. let given : word ≡ bit_not w64 a = search rules in rw given (not_bit a bit a_fits lt))
