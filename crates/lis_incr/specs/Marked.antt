-- Rows of marks on words and on files. No public clause cites this module.
use Rattle.std.specs.Prelude.{◌≡◌, ℕ, ◌<◌, ◌≤◌, ◌==◌, nat_lt, Bool, true, false, if◌then◌else◌, not, ◌&&◌, None, List, length, map, filter, take, slice_index}
use Rattle.std.specs.List.{list_any, Contains}
use Rattle.lis_words.specs.Words.{same_word, has_word}
use Rattle.lis_bits.specs.Rows.{Rows, HasShape, get}
use Rattle.lis_model.specs.Table.{Table, Entry, entails}
use Rattle.lis_model.specs.Listing.{is_candidate, is_local}
use Rattle.lis_ext.specs.Numbers.{has_number}
use Rattle.lis_eval.specs.View.{Placed, Seen, file_in}

-- the files whose slots are in the row
abbrev pub found_files : Seen → Rows → List Entry
found_files v found = map (λ (f : Placed). f.entry) (filter (λ (f : Placed). get found 0 f.slot) v.files)

-- the row has only slots of files
pub record Finds (v : Seen) (found : Rows) : Type 0 where
  pub shape : HasShape found 65 v.limits.files
  pub none : (slot : ℕ) → slot < v.limits.files → file_in v slot ≡ None → get found 0 slot ≡ false

-- one of the words has the number and passes the test
abbrev pub number_passes : List (List ℕ × ℕ) → (List ℕ → Bool) → ℕ → Bool
number_passes words test n = list_any (λ (w : List ℕ × ℕ). (w.1 == n) && test w.0) words

-- the row has the numbers of the words that pass the test
pub record AreMarked (v : Seen) (test : List ℕ → Bool) (marks : Rows) : Type 0 where
  pub shape : HasShape marks 1 v.limits.props
  pub marked : (n : ℕ) → n < v.limits.props → get marks 0 n ≡ number_passes v.words test n

-- each number in the row is in the list
abbrev pub MarksOnly : Seen → List ℕ → Rows → Type 0
MarksOnly v numbers marks = (n : ℕ) → n < v.limits.props → get marks 0 n ≡ true → has_number numbers n ≡ true

-- the row has, of the numbers in the list, those of the words that pass the test, and of the others those that it had before
pub record MarkedOf (v : Seen) (test : List ℕ → Bool) (numbers : List ℕ) (old marks : Rows) : Type 0 where
  pub shape : HasShape marks 1 v.limits.props
  pub marked : (n : ℕ) → n < v.limits.props → get marks 0 n ≡ (if has_number numbers n then number_passes v.words test n else get old 0 n)

-- the row has those of the first k words
pub record MarkedTo (v : Seen) (test : List ℕ → Bool) (k : ℕ) (marks : Rows) : Type 0 where
  pub shape : HasShape marks 1 v.limits.props
  pub marked : (n : ℕ) → n < v.limits.props → get marks 0 n ≡ number_passes (take k v.words) test n

-- the row has the files found of which no word splits the files
pub record LeavesLocals (v : Seen) (files : List Entry) (found locals : Rows) : Type 0 where
  pub shape : HasShape locals 1 v.limits.files
  pub left : (f : Placed) → Contains v.files f → get locals 0 f.slot ≡ (get found 0 f.slot && is_local files f.entry)

-- one of the words splits the files, and the file has it
abbrev pub is_covered : List Entry → List (List ℕ × ℕ) → Entry → Bool
is_covered files words e = list_any (λ (w : List ℕ × ℕ). is_candidate files w.0 && has_word e.words w.0) words

-- the counts say that some of the files has the word of a number, and not all `many` of them
abbrev pub splits_by : List ℕ → ℕ → ℕ → Bool
splits_by counts many number = nat_lt 0 (slice_index counts number) && nat_lt (slice_index counts number) many

-- the counts say of each word whether it splits the files
pub record SplitBy (v : Seen) (files : List Entry) (counts : List ℕ) (many : ℕ) : Type 0 where
  pub room : length counts ≡ v.limits.props
  pub told : (w : List ℕ × ℕ) → Contains v.words w → splits_by counts many w.1 ≡ is_candidate files w.0

-- the row has, of the files in the first k slots, those found that no word covers, and of the others those found
pub record LocalsTo (v : Seen) (files : List Entry) (found : Rows) (k : ℕ) (locals : Rows) : Type 0 where
  pub shape : HasShape locals 1 v.limits.files
  pub done : (f : Placed) → Contains v.files f → f.slot < k → get locals 0 f.slot ≡ (get found 0 f.slot && not (is_covered files v.words f.entry))
  pub left : (slot : ℕ) → k ≤ slot → slot < v.limits.files → get locals 0 slot ≡ get found 0 slot

-- the word passes the test, and no other known word that it entails does
abbrev pub is_top : Table → (List ℕ → Bool) → List ℕ → Bool
is_top t test p = test p && not (list_any (λ q. entails t p q && not (same_word q p) && test q) t.known)
