use Rattle.std.proofs.Common.{◌≡◌, ◌+◌, ◌-◌, ◌*◌}
use Rattle.lis_bits.specs.Bytes.{bits_number}
use Rattle.lis_blockmap.specs.Bitmap.{is_taken}
use Rattle.lis_blockmap.proofs.block_map.BlockMap.byte.Given as goal

abbrev pub invariant-loop-i : goal.invariant-loop-i
invariant-loop-i l = l.byte ≡ bits_number l.i (λ n. is_taken l.self (8 * l.k + (8 - l.i) + n))
