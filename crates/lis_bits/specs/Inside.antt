-- How the words of a frame make the rows of contracts. No public clause cites this module.
use Rattle.std.specs.Prelude.{◌≡◌, ℕ, ◌+◌, ◌*◌, ◌/◌, ◌%◌, ◌^◌, ◌<◌, ◌≤◌, Bool, List, [], length, map, unwrap_or, slice_index}
use Rattle.std.specs.List.{range_with_len}
use Rattle.lis_region.specs.Region as region
use Rattle.lis_bits.specs.Rows.{Rows, row_of}
use Rattle.lis_bits.specs.Words.{word_bit}

-- a bit of the row whose first word is at this place
abbrev pub bit_from : List ℕ → ℕ → ℕ → Bool
bit_from words at bit = word_bit (slice_index words (at + bit / 64)) (bit % 64)

-- rows of equal width, by the words of the frame
unfoldable pub rows_of : List ℕ → ℕ → ℕ → List (List Bool)
rows_of words rows width = map (λ row. row_of (64 * width) (bit_from words (row * width))) (range_with_len 0 rows)

-- the words of the frame
abbrev pub words_of : region.Region ℕ → ℕ → List ℕ
words_of r frame = unwrap_or (region.get r frame) []

-- the value of the fields in contracts
abbrev pub seen : region.Region ℕ → ℕ → ℕ → ℕ → ℕ → Rows
seen r frame rows width edits = record { bits = 64 * width; rows = rows_of (words_of r frame) rows width; edits = edits }

-- the frame has the words of all rows
pub record AreSoundRows (r : region.Region ℕ) (frame rows width : ℕ) : Type 0 where
  pub there : region.HasFrame r frame
  pub wide : r.width ≡ rows * width
  pub small : rows * (64 * width) ≤ 2 ^ 27

-- the words that `op` may give have, bit by bit, what `join` gives of the bits of its two words
abbrev pub IsBitwise : (Bool → Bool → Bool) → (ℕ → ℕ → ℕ → Type 0) → Type 0
IsBitwise join op = (a b word : ℕ) → a < 2 ^ 64 → b < 2 ^ 64 → op a b word → (bit : ℕ) → bit < 64
    → word_bit word bit ≡ join (word_bit a bit) (word_bit b bit)

-- there is room for the words of all flags, and no word is past the last flag
pub record AreSoundFlags (words : List ℕ) (bits capacity : ℕ) : Type 0 where
  pub whole_words : bits % 64 ≡ 0
  pub few : bits ≤ 2 ^ 27
  pub within : 64 * length words ≤ bits
  pub room : bits ≤ 64 * capacity
