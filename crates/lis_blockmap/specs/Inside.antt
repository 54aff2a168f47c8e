-- The row of free blocks. No public clause cites this module.
use Rattle.std.specs.Prelude.{◌≡◌, ℕ, ◌<◌, ◌≤◌, nat_lt, Bool, not, false, List, length, map}
use Rattle.std.specs.List.{range_with_len}
use Rattle.lis_limits.specs.declared.TheConstants.{V3_MAX_BLOCKS}
use Rattle.lis_bits.specs.Rows.{Rows, get}
use Rattle.lis_blockmap.specs.Bitmap.{free_count}

-- which blocks are taken, by the row of the free ones
unfoldable pub taken_of : Rows → ℕ → List Bool
taken_of rows blocks = map (λ n. not (get rows 0 n)) (range_with_len 0 blocks)

-- there is one row, with the bits of at least `blocks` blocks, and exactly its first `free` bits are true
pub record HasFree (rows : Rows) (blocks free : ℕ) : Type 0 where
  pub tall : length rows.rows ≡ 1
  pub wide : blocks ≤ rows.bits
  pub bits : (n : ℕ) → n < rows.bits → get rows 0 n ≡ nat_lt n free

-- what the row keeps
pub record IsSoundMap (rows : Rows) (blocks free : ℕ) : Type 0 where
  pub tall : length rows.rows ≡ 1
  pub wide : blocks ≤ rows.bits
  pub few : blocks ≤ V3_MAX_BLOCKS
  -- no bit past the last block is true
  pub past : (n : ℕ) → blocks ≤ n → n < rows.bits → get rows 0 n ≡ false
  pub counted : free ≡ free_count (taken_of rows blocks)
