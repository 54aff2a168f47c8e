use Rattle.std.proofs.Common.{◌≡◌, ℕ, ◌<◌}
use Rattle.lis_blockmap.specs.Bitmap.{has_bit}
use Rattle.lis_blockmap.proofs.block_map.first_unlike.Given as goal

abbrev pub invariant-loop-bit : goal.invariant-loop-bit
invariant-loop-bit l = (m : ℕ) → m < l.bit → has_bit l.a m ≡ has_bit l.b m
