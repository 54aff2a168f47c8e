-- Which of the data blocks are taken, and the blocks that say so.
use Rattle.std.specs.Prelude.{◌≡◌, ◌≢◌, ℕ, ◌+◌, ◌*◌, ◌/◌, ◌%◌, ◌<◌, ◌≤◌, ◌==◌, Bool, not, true, false, List, count_by, slice_index, slice_index_or}
use Rattle.std.specs.Int.{bit_at}
use Rattle.lis_limits.specs.declared.TheConstants.{BLOCK_LEN, BLOCK_BITS}
use Rattle.lis_bits.specs.Bytes.{bits_bytes}

-- how many blocks are free
abbrev pub free_count : List Bool → ℕ
free_count taken = count_by not taken

-- a block is taken
abbrev pub is_taken : List Bool → ℕ → Bool
is_taken taken n = slice_index_or taken n false

-- no block from the first number up to the second is free
abbrev pub NoneFree : List Bool → ℕ → ℕ → Type 0
NoneFree taken start end = (k : ℕ) → start ≤ k → k < end → is_taken taken k ≡ true

-- Block n of the bitmap has the bits of 32,768 data blocks, from 32,768 n on: bit k mod 8 of byte k / 8 says whether data block
-- 32,768 n + k is taken. All bits past the last data block are 0.
unfoldable pub bitmap_bytes : ℕ → List Bool → List ℕ
bitmap_bytes n taken = bits_bytes BLOCK_LEN (λ k. is_taken taken (BLOCK_BITS * n + k))

-- a bit of a block, in the same order
abbrev pub has_bit : List ℕ → ℕ → Bool
has_bit bytes n = bit_at (slice_index bytes (n / 8)) (n % 8) == 1

-- the first bit of block n of the bitmap that is not as its data block: taken or free
pub record IsFirstDifference (n : ℕ) (bytes : List ℕ) (taken : List Bool) (bit : ℕ) : Type 0 where
  pub within : bit < BLOCK_BITS
  pub here : has_bit bytes bit ≢ is_taken taken (BLOCK_BITS * n + bit)
  pub none_before : (m : ℕ) → m < bit → has_bit bytes m ≡ is_taken taken (BLOCK_BITS * n + m)
