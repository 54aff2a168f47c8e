use Rattle.std.proofs.Common.{◌≡◌, ℕ, ◌<◌, ◌≤◌, ◌+◌, ◌*◌, get_or}
use Rattle.lis_bits.specs.Bytes.{bits_number}
use Rattle.lis_blockmap.specs.Bitmap.{is_taken}
use Rattle.lis_blockmap.proofs.block_map.BlockMap.write_to.Given as goal

-- the bytes so far are written, and the others are 0
abbrev pub invariant-loop-k : goal.invariant-loop-k
invariant-loop-k l = ((k : ℕ) → k < l.k → get_or l.bytes k 0 ≡ bits_number 8 (λ i. is_taken l.self (8 * (4096 * l.n + k) + i))) × ((k : ℕ) → l.k ≤ k → get_or l.bytes k 0 ≡ 0)
