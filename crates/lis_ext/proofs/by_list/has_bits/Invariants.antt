use Rattle.std.proofs.Common.{◌≡◌, ℕ, ◌+◌, ◌*◌, ◌<◌, get_or}
use Rattle.lis_bits.specs.Bytes.{bits_number}
use Rattle.lis_ext.specs.Inside.{has_in}
use Rattle.lis_ext.proofs.by_list.has_bits.Given as goal

abbrev pub invariant-loop-k : goal.invariant-loop-k
invariant-loop-k l = (j : ℕ) → j < l.k → get_or l.bytes j 0 ≡ bits_number 8 (λ i. has_in l.lists l.prop (8 * j + i))
