-- The first step of a route. No public clause cites this module.
use Rattle.std.specs.Prelude.{◌≡◌, ℕ, ◌<◌, nat_lt, ◌&&◌, if◌then◌else◌, Bool, true, false, Option, Some, None, List, find, slice_get, MatchOption}
use Rattle.std.specs.List.{Contains}
use Rattle.lis_words.specs.Words.{has_word}
use Rattle.lis_bits.specs.Rows.{Rows}
use Rattle.lis_model.specs.Table.{Entry}
use Rattle.lis_model.specs.Listing.{is_increment}
use Rattle.lis_ext.specs.Numbers.{has_number}
use Rattle.lis_eval.specs.View.{Seen, table_of, place_of}
use Rattle.lis_incr.specs.Marked.{found_files}

-- the word is an increment of the files found, and the file has it
abbrev pub is_step : Seen → Rows → Entry → List ℕ × ℕ → Bool
is_step v found e w = is_increment (table_of v) (found_files v found) w.0 && has_word e.words w.0

-- the index and the number are those of the first such word, or there is none
abbrev pub IsFirst : Seen → Rows → Entry → Option (ℕ × ℕ) → Type 0
IsFirst v found e r = MatchOption r (find (is_step v found e) v.words ≡ None)
    (λ p. (w : List ℕ × ℕ) × (slice_get v.words p.0 ≡ Some w) × (w.1 ≡ p.1) × (find (is_step v found e) v.words ≡ Some w))

-- the index is that of the first word with the number, and such words pass the test, or none of them does
abbrev pub IsStepBy : Seen → (List ℕ → Bool) → ℕ → Option (ℕ × ℕ) → Type 0
IsStepBy v test number None = (w : List ℕ × ℕ) → Contains v.words w → w.1 ≡ number → test w.0 ≡ false
IsStepBy v test number (Some p) = (place_of v number ≡ Some p.0) × (p.1 ≡ number) × ((w : List ℕ × ℕ) → Contains v.words w → w.1 ≡ number → test w.0 ≡ true)

-- of the words that pass the test and whose numbers are in the list, the first one has the index and the number, or there is none
abbrev pub IsFirstBy : Seen → (List ℕ → Bool) → List ℕ → Option (ℕ × ℕ) → Type 0
IsFirstBy v test numbers None = (w : List ℕ × ℕ) → Contains v.words w → has_number numbers w.1 ≡ true → test w.0 ≡ false
IsFirstBy v test numbers (Some p) =
    ((w : List ℕ × ℕ) × (slice_get v.words p.0 ≡ Some w) × (w.1 ≡ p.1) × (has_number numbers w.1 ≡ true) × (test w.0 ≡ true))
    × ((k : ℕ) (x : List ℕ × ℕ) → k < p.0 → slice_get v.words k ≡ Some x → has_number numbers x.1 ≡ true → test x.0 ≡ false)

-- that one of two steps whose word comes first
abbrev pub earlier : Option (ℕ × ℕ) → Option (ℕ × ℕ) → Option (ℕ × ℕ)
earlier None step = step
earlier (Some one) None = Some one
earlier (Some one) (Some other) = if nat_lt other.0 one.0 then Some other else Some one
