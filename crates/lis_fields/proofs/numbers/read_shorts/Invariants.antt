use Rattle.std.proofs.Common.{◌≡◌, ℕ, ◌*◌, ◌<◌, get_or, drop}
use Rattle.byteorder.specs.Endian.{little_number}
use Rattle.lis_fields.proofs.numbers.read_shorts.Given as goal

abbrev pub invariant-loop-k : goal.invariant-loop-k
invariant-loop-k l = (j : ℕ) → j < l.k → get_or l.numbers j 0 ≡ little_number 2 (drop (2 * j) l.bytes)
