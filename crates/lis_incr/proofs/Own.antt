-- The words of one file, marked by their numbers.
use Rattle.std.proofs.Common.{◌≡◌, ◌⊎◌, inl, inr, ℕ, ◌+◌, ◌<◌, ◌==◌, nat_eq, Bool, true, false, not, ◌&&◌, ◌||◌, if◌then◌else◌, None, List, take, get_or, IsTrue, ◌↔◌, length, refl, sym, ap, ◌∙◌, arith, eq-eqb}
use Rattle.std.specs.List.{list_any, Contains}
use Rattle.std.proofs.lemmas.Bool.{cases_eq, eqb-true, ne_eqb, and_parts}
use Rattle.std.proofs.lemmas.List.Folds.{list_any_more}
use Rattle.lis_graph.proofs.Members.{contains_from_among, among_from_any, any_from_among}
use Rattle.lis_words.specs.Words.{has_word}
use Rattle.lis_bits.specs.Rows.{Rows, get, SetsBits}
use Rattle.lis_model.specs.Table.{Entry}
use Rattle.lis_model.specs.Listing.{is_candidate}
use Rattle.lis_ext.specs.Ext as ext
use Rattle.lis_ext.specs.Numbers.{has_number}
use Rattle.lis_eval.specs.View.{Placed, Seen, file_in, IsView, TellsFiles}
use Rattle.lis_incr.specs.Marked.{found_files, Finds, number_passes, AreMarked, MarksOnly, MarkedOf}
use Rattle.lis_incr.proofs.Found.{slot_file, in_found, from_found, has_told}
use Rattle.lis_incr.proofs.Marked.{word_passes}

-- ---- one more number of a list
module _ (numbers : List ℕ) (k : ℕ) (lt : k < length numbers) (n : ℕ) where
  pub has_more : has_number (take (k + 1) numbers) n ≡ (has_number (take k numbers) n || nat_eq (get_or numbers k 0) n)
  has_more = list_any_more (λ q. nat_eq q n) numbers k 0 lt

  pub has_last : get_or numbers k 0 ≡ n → has_number (take (k + 1) numbers) n ≡ true
  has_last same = has_more ∙ (ap (λ b. has_number (take k numbers) n || b) (eq-eqb (get_or numbers k 0) n same) ∙ any_true (has_number (take k numbers) n))
    where
      any_true : (b : Bool) → (b || true) ≡ true
      any_true true = refl
      any_true false = refl

  pub has_same : (get_or numbers k 0 ≡ n → ⊥) → has_number (take (k + 1) numbers) n ≡ has_number (take k numbers) n
  has_same differ = has_more ∙ (ap (λ b. has_number (take k numbers) n || b) (ne_eqb (get_or numbers k 0) n differ) ∙ or_false (has_number (take k numbers) n))
    where
      or_false : (b : Bool) → (b || false) ≡ b
      or_false true = refl
      or_false false = refl

  pub has_split : has_number (take (k + 1) numbers) n ≡ true → (has_number (take k numbers) n ≡ true) ⊎ (get_or numbers k 0 ≡ n)
  has_split has = by (cases_eq (get_or numbers k 0) n)
    where
      by : (get_or numbers k 0 ≡ n) ⊎ (get_or numbers k 0 ≡ n → ⊥) → (has_number (take k numbers) n ≡ true) ⊎ (get_or numbers k 0 ≡ n)
      by (inl same) = inr same
      by (inr differ) = inl (sym (has_same differ) ∙ has)

  pub has_kept : has_number (take k numbers) n ≡ true → has_number (take (k + 1) numbers) n ≡ true
  has_kept has = rw (has_more, has) refl

-- ---- the marks of the numbers of a list
module _ (v : Seen) (test : List ℕ → Bool) (start : Rows) where
  pub of_more : IsView v → (numbers : List ℕ) (k : ℕ) → k < length numbers → (old new : Rows) (w : List ℕ × ℕ) → Contains v.words w → get_or numbers k 0 ≡ w.1 → MarkedOf v test (take k numbers) start old
      → SetsBits old new 1 v.limits.props 0 (λ n. if n == w.1 then test w.0 else get old 0 n) → MarkedOf v test (take (k + 1) numbers) start new
  of_more kept numbers k below old new w there is to sets = record { shape = sets.shape; marked = λ n lt. sets.at n lt ∙ by n lt (cases_eq n w.1) }
    where
      by : (n : ℕ) → n < v.limits.props → (n ≡ w.1) ⊎ (n ≡ w.1 → ⊥) → (if n == w.1 then test w.0 else get old 0 n) ≡ (if has_number (take (k + 1) numbers) n then number_passes v.words test n else get start 0 n)
      by n lt (inl same) = rw (eq-eqb n w.1 same, has_last numbers k below n (is ∙ sym same)) (sym (ap (number_passes v.words test) same ∙ word_passes v test kept w there))
      by n lt (inr differ) = rw (ne_eqb n w.1 differ, has_same numbers k below n (λ e. differ (sym e ∙ is))) (to.marked n lt)

  -- a test that holds only of words whose numbers are in the list
  module _ (numbers : List ℕ) (only : MarksOnly v numbers start) (new : Rows) (to : MarkedOf v test numbers start new) where
    pub of_all : ((n : ℕ) → n < v.limits.props → number_passes v.words test n ≡ true → has_number numbers n ≡ true) → AreMarked v test new
    of_all own = record { shape = to.shape; marked = λ n lt. to.marked n lt ∙ by n lt (has_number numbers n) refl (number_passes v.words test n) refl (get start 0 n) refl }
      where
        by : (n : ℕ) → n < v.limits.props → (has : Bool) → has_number numbers n ≡ has → (passes : Bool) → number_passes v.words test n ≡ passes → (was : Bool) → get start 0 n ≡ was → (if has then passes else was) ≡ passes
        by n lt true is passes p was w = refl
        by n lt false is true p was w = absurd (let has = own n lt p in cc)
        by n lt false is false p true w = absurd (let has = only n lt w in cc)
        by n lt false is false p false w = refl

    pub of_only : MarksOnly v numbers new
    of_only n lt set = by (has_number numbers n) refl
      where
        by : (b : Bool) → has_number numbers n ≡ b → b ≡ true
        by true is = refl
        by false is = absurd (let was = sym (to.marked n lt) ∙ set in let has = only n lt (rw is at was) in cc)

-- ---- the words of a file that split the files found, of which it is one
module _ (v : Seen) (found : Rows) (e : ext.Ext) (tells : TellsFiles v e) (f : Placed) (here : Contains v.files f) where
  abbrev pub splits_own : List ℕ → Bool
  splits_own word = has_word f.entry.words word && is_candidate (found_files v found) word

  -- their numbers are among those of the file
  pub own_numbers : (n : ℕ) → n < v.limits.props → number_passes v.words splits_own n ≡ true → has_number (ext.set_of e f.slot) n ≡ true
  own_numbers n lt passes =
      let x = among_from_any (λ (w : List ℕ × ℕ). (w.1 == n) && splits_own w.0) v.words passes in
      let parts = and_parts (x.0.1 == n) (splits_own x.0.0) x.2 in
      let has = (and_parts (has_word f.entry.words x.0.0) (is_candidate (found_files v found) x.0.0) parts.1).0 in
      has_told v e tells x.0 (contains_from_among v.words x.0 x.1) n (eqb-true x.0.1 n parts.0) f here ∙ has

  -- a word of the file splits the files exactly if some of them lacks it
  pub own_splits : get found 0 f.slot ≡ true → (w : List ℕ × ℕ) → Contains v.words w → has_number (ext.set_of e f.slot) w.1 ≡ true
      → list_any (λ (o : Entry). not (has_word o.words w.0)) (found_files v found) ≡ splits_own w.0
  own_splits inside w there has =
      let own : has_word f.entry.words w.0 ≡ true = sym (tells.told w f there here) ∙ has in
      let some = any_from_among (λ (o : Entry). has_word o.words w.0) (found_files v found) f.entry (in_found v found f here inside) own in
      rw (own, some) refl

-- ---- whether some of the files found lacks a word
pub lacked : (v : Seen) (found : Rows) → IsView v → Finds v found → (e : ext.Ext) → TellsFiles v e → (w : List ℕ × ℕ) → Contains v.words w → (number : ℕ) → w.1 ≡ number → (all : Bool)
    → IsTrue all ↔ ((i : ℕ) → i < length e.sets → IsTrue (get found 0 i) → IsTrue (ext.has e number i)) → not all ≡ list_any (λ (o : Entry). not (has_word o.words w.0)) (found_files v found)
lacked v found kept finds e tells w there number numbered all is = by all refl (list_any lacks (found_files v found)) refl
  where
    lacks : Entry → Bool
    lacks o = not (has_word o.words w.0)

    told : (f : Placed) → Contains v.files f → ext.has e number f.slot ≡ has_word f.entry.words w.0
    told f here = has_told v e tells w there number numbered f here

    -- if none lacks it, each has it
    each : list_any lacks (found_files v found) ≡ false → (i : ℕ) → i < length e.sets → get found 0 i ≡ true → ext.has e number i ≡ true
    each none i lt set = at (slot_file v i)
      where
        had : (f : Placed) → Contains v.files f → f.slot ≡ i → (b : Bool) → has_word f.entry.words w.0 ≡ b → b ≡ true
        had f here placed true has = refl
        had f here placed false has = absurd (let some = any_from_among lacks (found_files v found) f.entry (in_found v found f here (ap (get found 0) placed ∙ set)) (ap not has) in cc)

        at : ((f : Placed) × Contains v.files f × (f.slot ≡ i)) ⊎ (file_in v i ≡ None) → ext.has e number i ≡ true
        at (inl f) = ap (ext.has e number) (sym f.2) ∙ (told f.0 f.1 ∙ had f.0 f.1 f.2 (has_word f.0.entry.words w.0) refl)
        at (inr free) = absurd (let clear = finds.none i (omega (arith, lt, tells.files)) free in cc)

    by : (a : Bool) → all ≡ a → (b : Bool) → list_any lacks (found_files v found) ≡ b → not a ≡ b
    by true holds true any =
        let some = among_from_any lacks (found_files v found) any in
        let f = from_found v found some.0 some.1 in
        let lacking : lacks f.0.entry ≡ true = ap lacks f.3 ∙ some.2 in
        let has = sym (told f.0 f.1) ∙ is.0 holds f.0.slot (let low = kept.slots f.0 f.1 in omega (arith, tells.files)) f.2 in
        absurd (let no = ap not has in cc)
    by true holds false any = refl
    by false holds true any = refl
    by false holds false any = absurd (let set = is.1 (each any) in cc)
