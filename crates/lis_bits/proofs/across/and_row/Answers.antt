use Rattle.std.proofs.Common.{◌≡◌, ◌&&◌, bit_and, rules}
use Rattle.lis_bits.proofs.Bits.{and_bit}
use Rattle.lis_bits.proofs.across.and_row.Goals as goal

pub returns : goal.returns
returns c = c.join_with.ensures ◌&&◌ (λ a b word a_fits b_fits is bit lt. let given : word ≡ bit_and a b = search rules in rw given (and_bit a b bit))
