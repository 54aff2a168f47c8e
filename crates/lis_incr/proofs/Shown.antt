-- Lines from rows of marks are those of the listing.
use Rattle.std.proofs.Common.{◌≡◌, ℕ, ◌+◌, ◌≤◌, Bool, true, false, cond, ◌&&◌, Some, List, [], ◌∷◌, length, map, filter, drop, refl, sym, ap, ◌∙◌}
use Rattle.std.specs.List.{slice_get}
use Rattle.std.proofs.lemmas.List.{drop_more, drop_all}
use Rattle.std.proofs.lemmas.Simd.{map-map}
use Rattle.std.proofs.lemmas.Option.{slice_get_within, get_or_from_slice_get}
use Rattle.lis_graph.proofs.Members.{contains_from_among}
use Rattle.lis_graph.proofs.Filters.{filter_same, filter_twice}
use Rattle.lis_grammar.specs.Formula.{Formula}
use Rattle.lis_bits.specs.Rows.{Rows, get}
use Rattle.lis_model.specs.Table.{Entry}
use Rattle.lis_model.specs.Listing.{holds_all, extension, increments, locals, is_candidate, is_increment, is_local}
use Rattle.lis_eval.specs.View.{Placed, Seen, IsView, TellsTest, table_of}
use Rattle.lis_incr.specs.Marked.{found_files, AreMarked, LeavesLocals, is_top}
use Rattle.lis_incr.specs.Lines.{listing, words_from, names_from, lines_from}
use Rattle.lis_incr.proofs.Marked.{marked_at}

-- ---- filters
pub filter_mapped : {K L : Type 0} (test : L → Bool) (h : K → L) (xs : List K) → filter test (map h xs) ≡ map h (filter (λ x. test (h x)) xs)
filter_mapped test h [] = refl
filter_mapped test h (x ∷ xs) = by (test (h x)) (filter_mapped test h xs)
  where
    by : (b : Bool) → filter test (map h xs) ≡ map h (filter (λ y. test (h y)) xs) → cond b (h x ∷ filter test (map h xs)) (filter test (map h xs)) ≡ map h (cond b (x ∷ filter (λ y. test (h y)) xs) (filter (λ y. test (h y)) xs))
    by true rest = ap (λ ys. h x ∷ ys) rest
    by false rest = rest

-- ---- what is shown from an index on
module _ {K : Type 0} (test : K → Bool) (name : K → List ℕ) (xs : List K) where
  abbrev pub shown_from : ℕ → List (List ℕ)
  shown_from k = map name (filter test (drop k xs))

  split_at : (k : ℕ) (x : K) → slice_get xs k ≡ Some x → shown_from k ≡ map name (filter test (x ∷ drop (k + 1) xs))
  split_at k x at = ap (λ ys. map name (filter test ys)) (drop_more xs k x (slice_get_within xs k x at) ∙ ap (λ y. y ∷ drop (k + 1) xs) (get_or_from_slice_get xs k x x at))

  pub shown_next : (k : ℕ) (x : K) → slice_get xs k ≡ Some x → test x ≡ true → shown_from k ≡ name x ∷ shown_from (k + 1)
  shown_next k x at marked = split_at k x at ∙ rw marked

  pub shown_later : (k : ℕ) (x : K) → slice_get xs k ≡ Some x → test x ≡ false → shown_from k ≡ shown_from (k + 1)
  shown_later k x at none = split_at k x at ∙ rw none

  pub shown_end : (k : ℕ) → length xs ≤ k → shown_from k ≡ []
  shown_end k past = ap (λ ys. map name (filter test ys)) (drop_all k xs past)

-- ---- the whole listing
module _ (v : Seen) (kept : IsView v) (found : Rows) (place : List Formula) (tells : TellsTest v (get found 0) (holds_all place)) where
  pub found_is : found_files v found ≡ extension (table_of v) place
  found_is =
      ap (map (λ (f : Placed). f.entry)) (filter_same (λ (f : Placed). get found 0 f.slot) (λ (f : Placed). holds_all place f.entry) v.files (λ f m. tells.told f (contains_from_among v.files f m)))
      ∙ sym (filter_mapped (holds_all place) (λ (f : Placed). f.entry) v.files)

  words_are : (marks : Rows) → AreMarked v (is_top (table_of v) (is_candidate (found_files v found))) marks → words_from v marks 0 ≡ increments (table_of v) place
  words_are marks are =
      ap (map (λ (w : List ℕ × ℕ). w.0)) (filter_same (λ (w : List ℕ × ℕ). get marks 0 w.1) (λ (w : List ℕ × ℕ). is_increment (table_of v) (found_files v found) w.0) v.words
      (λ w m. marked_at v (is_top (table_of v) (is_candidate (found_files v found))) kept marks are w (contains_from_among v.words w m)))
      ∙ (sym (filter_mapped (is_increment (table_of v) (found_files v found)) (λ (w : List ℕ × ℕ). w.0) v.words) ∙ ap (λ (files : List Entry). filter (is_increment (table_of v) files) (table_of v).known) found_is)

  names_are : (marks : Rows) → LeavesLocals v (found_files v found) found marks → names_from v marks 0 ≡ map (λ (e : Entry). e.name) (locals (table_of v) place)
  names_are marks leaves =
      let files = found_files v found in
      let test : Entry → Bool = λ e. holds_all place e && is_local files e in
      ap (map (λ (f : Placed). f.entry.name)) (filter_same (λ (f : Placed). get marks 0 f.slot) (λ (f : Placed). test f.entry) v.files
      (λ f m. let here = contains_from_among v.files f m in leaves.left f here ∙ ap (λ b. b && is_local files f.entry) (tells.told f here)))
      ∙ (sym (map-map (λ (e : Entry). e.name) (λ (f : Placed). f.entry) (filter (λ (f : Placed). test f.entry) v.files))
      ∙ (ap (map (λ (e : Entry). e.name)) (sym (filter_mapped test (λ (f : Placed). f.entry) v.files) ∙ sym (filter_twice (holds_all place) (is_local files) (table_of v).files))
      ∙ ap (λ (fs : List Entry). map (λ (e : Entry). e.name) (filter (is_local fs) (extension (table_of v) place))) found_is))

  pub lines_are : (increments locals : Rows) → AreMarked v (is_top (table_of v) (is_candidate (found_files v found))) increments → LeavesLocals v (found_files v found) found locals
      → lines_from v increments locals 0 0 ≡ listing (table_of v) place
  lines_are increments locals are leaves = rw (words_are increments are, names_are locals leaves)
