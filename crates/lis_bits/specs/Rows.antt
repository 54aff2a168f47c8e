-- The value of `Rows` in contracts.
use Rattle.std.specs.Prelude.{◌≡◌, ◌≢◌, ℕ, ◌+◌, ◌-◌, ◌^◌, ◌<◌, ◌≤◌, min, Bool, false, List, [], length, map, slice_index_or, slice_set, replicate}
use Rattle.std.specs.List.{range_with_len}

-- the width of a row in bits, the truth values of each row, and how often a row was changed, up to the last value of the
-- counter
pub record Rows : Type 0 where
  pub bits : ℕ
  pub rows : List (List Bool)
  pub edits : ℕ

-- the truth values of a row
abbrev pub row_at : Rows → ℕ → List Bool
row_at r row = slice_index_or r.rows row []

-- the truth value at a bit of a row
abbrev pub get : Rows → ℕ → ℕ → Bool
get r row bit = slice_index_or (row_at r row) bit false

-- a row of that width with these truth values
unfoldable pub row_of : ℕ → (ℕ → Bool) → List Bool
row_of bits value = map value (range_with_len 0 bits)

-- one edit more, and none if the counter is at its last value: it never falls
abbrev pub one_more : ℕ → ℕ
one_more edits = edits + min 1 (2 ^ 64 - 1 - edits)

-- one row is set to these truth values, bit by bit, by one edit; every other row stays
abbrev pub with_row : Rows → ℕ → (ℕ → Bool) → Rows
with_row r row value = record { bits = r.bits; rows = slice_set r.rows row (row_of r.bits value); edits = one_more r.edits }

-- rows that are all false
abbrev pub empty_rows : ℕ → ℕ → Rows
empty_rows rows bits = record { bits = bits; rows = replicate rows (replicate bits false); edits = 0 }

-- no bit from the first number up to the second is true
abbrev pub NoneTrue : Rows → ℕ → ℕ → ℕ → Type 0
NoneTrue r row start end = (bit : ℕ) → start ≤ bit → bit < end → get r row bit ≡ false

-- the number of rows and their width
pub record HasShape (r : Rows) (rows bits : ℕ) : Type 0 where
  pub tall : length r.rows ≡ rows
  pub wide : r.bits ≡ bits

-- one of the rows has these truth values now, bit by bit, and the others stay
pub record SetsBits (old new : Rows) (rows bits row : ℕ) (value : ℕ → Bool) : Type 0 where
  pub shape : HasShape new rows bits
  pub at : (bit : ℕ) → bit < bits → get new row bit ≡ value bit
  pub others : (other bit : ℕ) → other ≢ row → get new other bit ≡ get old other bit
