-- The truth values of rows, after one row was set: what crates above need to know of `with_row`.
use Rattle.std.proofs.Common.{◌≡◌, ◌≢◌, ℕ, ◌<◌, ◌≤◌, ◌⊎◌, inl, inr, Bool, false, [], length, get_or, set, replicate, ap, ◌∙◌, arith, length-set, get_or-set_same, get_or-set_other}
use Rattle.std.proofs.lemmas.List.{get_or-replicate, length-replicate, get_or_past}
use Rattle.std.proofs.lemmas.Bool.{cases_lt}
use Rattle.lis_bits.specs.Rows.{Rows, HasShape, get, row_at, row_of, with_row, one_more, empty_rows, SetsBits}
use Rattle.lis_bits.proofs.View.{get-row_of, row_same}

pub get-with_row_same : (r : Rows) (row bit : ℕ) (value : ℕ → Bool) → row < length r.rows → bit < r.bits → get (with_row r row value) row bit ≡ value bit
get-with_row_same r row bit value in_rows in_row = ap (λ values. get_or values bit false) (get_or-set_same r.rows row (row_of r.bits value) [] in_rows) ∙ get-row_of r.bits value bit in_row

pub row-with_row : (r : Rows) (row : ℕ) (value : ℕ → Bool) → row < length r.rows → row_at (with_row r row value) row ≡ row_of r.bits value
row-with_row r row value in_rows = get_or-set_same r.rows row (row_of r.bits value) [] in_rows

pub get-with_row_other : (r : Rows) (row other bit : ℕ) (value : ℕ → Bool) → other ≢ row → get (with_row r row value) other bit ≡ get r other bit
get-with_row_other r row other bit value differ = ap (λ values. get_or values bit false) (get_or-set_other r.rows row other (row_of r.bits value) [] differ)

pub length-with_row : (r : Rows) (row : ℕ) (value : ℕ → Bool) → length (with_row r row value).rows ≡ length r.rows
length-with_row r row value = length-set r.rows row (row_of r.bits value)

pub all_false : (n k : ℕ) → get_or (replicate n false) k false ≡ false
all_false n k = go (cases_lt k n)
  where
    go : (k < n) ⊎ (n ≤ k) → get_or (replicate n false) k false ≡ false
    go (inl lt) = get_or-replicate n k false false lt
    go (inr ge) = get_or_past (replicate n false) k false (omega (arith, length-replicate n false))

pub get-empty_rows : (rows bits row bit : ℕ) → get (empty_rows rows bits) row bit ≡ false
get-empty_rows rows bits row bit = go (cases_lt row rows)
  where
    go : (row < rows) ⊎ (rows ≤ row) → get (empty_rows rows bits) row bit ≡ false
    go (inl lt) = rw (get_or-replicate rows row (replicate bits false) [] lt) (all_false bits bit)
    go (inr ge) = rw (get_or_past (replicate rows (replicate bits false)) row [] (omega (arith, length-replicate rows (replicate bits false))))

-- other truth values that are the same at each bit of a row
pub with_row_same : (r : Rows) (row : ℕ) (f g : ℕ → Bool) → ((bit : ℕ) → bit < r.bits → f bit ≡ g bit) → with_row r row f ≡ with_row r row g
with_row_same r row f g same = ap (λ values. record { bits = r.bits; rows = set r.rows row values; edits = one_more r.edits }) (row_same r.bits f g same)

-- ---- rows of one shape, of which one row is set
pub shaped : (r : Rows) (rows bits row : ℕ) (value : ℕ → Bool) → HasShape r rows bits → HasShape (with_row r row value) rows bits
shaped r rows bits row value shape = record { tall = length-with_row r row value ∙ shape.tall; wide = shape.wide }

-- the row that was set
pub new_row : (r : Rows) (rows bits row bit : ℕ) (value : ℕ → Bool) → HasShape r rows bits → row < rows → bit < bits → get (with_row r row value) row bit ≡ value bit
new_row r rows bits row bit value shape lt in_row = get-with_row_same r row bit value (omega (arith, shape.tall)) (omega (arith, shape.wide))

pub bits_set : (old : Rows) (rows bits row : ℕ) (value : ℕ → Bool) → HasShape old rows bits → row < rows → SetsBits old (with_row old row value) rows bits row value
bits_set old rows bits row value shape lt = record {
  shape = shaped old rows bits row value shape;
  at = λ bit in_row. new_row old rows bits row bit value shape lt in_row;
  others = λ other bit differ. get-with_row_other old row other bit value differ;
}

pub row_sets : (old new : Rows) (rows bits row : ℕ) (value : ℕ → Bool) → HasShape old rows bits → row < rows → new ≡ with_row old row value → SetsBits old new rows bits row value
row_sets old new rows bits row value shape lt sets = rw sets (bits_set old rows bits row value shape lt)

pub bits_again : (old mid new : Rows) (rows bits row : ℕ) (f g : ℕ → Bool) → SetsBits old mid rows bits row f → SetsBits mid new rows bits row g → SetsBits old new rows bits row g
bits_again old mid new rows bits row f g first second = record {
  shape = second.shape;
  at = second.at;
  others = λ other bit differ. second.others other bit differ ∙ first.others other bit differ;
}
