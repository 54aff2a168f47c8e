-- Rows of marks on words, word by word.
use Rattle.std.proofs.Common.{◌≡◌, ◌≢◌, ◌⊎◌, inl, inr, ℕ, ◌+◌, ◌<◌, ◌≤◌, ◌==◌, Bool, true, false, not, ◌&&◌, ◌||◌, Some, List, take, refl, sym, ap, ◌∙◌, arith, eq-eqb}
use Rattle.std.specs.Bool.{one_answer}
use Rattle.std.specs.List.{slice_get, list_any, Contains}
use Rattle.std.proofs.lemmas.Bool.{cases_eq, eqb-true, and_parts, and_from}
use Rattle.std.proofs.lemmas.List.Folds.{list_any_more}
use Rattle.std.proofs.lemmas.Option.{slice_get_within, get_or_from_slice_get}
use Rattle.std.proofs.lemmas.Slice.Eq.{bytes_eq-Decides}
use Rattle.lis_graph.proofs.Members.{among_from_contains, contains_from_among, among_from_any, any_from_among}
use Rattle.lis_words.specs.Words.{same_word, has_word}
use Rattle.lis_bits.specs.Rows.{Rows, HasShape, get, with_row, SetsBits}
use Rattle.lis_bits.proofs.Laws.{bits_set}
use Rattle.lis_model.specs.Table.{Entry}
use Rattle.lis_model.specs.Listing.{is_candidate}
use Rattle.lis_ext.specs.Ext as ext
use Rattle.lis_ext.proofs.Numbers.{has_decides}
use Rattle.lis_ext.proofs.Counted.{each_below}
use Rattle.lis_eval.specs.View.{Placed, Seen, IsView, TellsFiles}
use Rattle.lis_incr.specs.Marked.{number_passes, AreMarked, MarkedTo, LeavesLocals, LocalsTo, is_covered}

module _ (v : Seen) (test : List ℕ → Bool) where
  pub marked_none : (old : Rows) → HasShape old 1 v.limits.props → MarkedTo v test 0 (with_row old 0 (λ _. false))
  marked_none old shape =
      let sets = bits_set old 1 v.limits.props 0 (λ _. false) shape (omega arith) in
      record { shape = sets.shape; marked = λ n lt. sets.at n lt }

  pub marked_more : (k : ℕ) (old new : Rows) (w : List ℕ × ℕ) → MarkedTo v test k old → slice_get v.words k ≡ Some w → SetsBits old new 1 v.limits.props 0 (λ n. get old 0 n || ((w.1 == n) && test w.0)) → MarkedTo v test (k + 1) new
  marked_more k old new w to at sets = record {
    shape = sets.shape;
    marked = λ n lt. sets.at n lt ∙ (ap (λ b. b || ((w.1 == n) && test w.0)) (to.marked n lt)
        ∙ sym (list_any_more (λ (x : List ℕ × ℕ). (x.1 == n) && test x.0) v.words k w (slice_get_within v.words k w at)
        ∙ ap (λ (x : List ℕ × ℕ). number_passes (take k v.words) test n || ((x.1 == n) && test x.0)) (get_or_from_slice_get v.words k w w at)));
  }

  pub marked_all : (k : ℕ) (marks : Rows) → take k v.words ≡ v.words → MarkedTo v test k marks → AreMarked v test marks
  marked_all k marks all to = record { shape = to.shape; marked = λ n lt. to.marked n lt ∙ ap (λ (ws : List (List ℕ × ℕ)). number_passes ws test n) all }

  -- the number of a word passes exactly if the word does
  pub word_passes : IsView v → (w : List ℕ × ℕ) → Contains v.words w → number_passes v.words test w.1 ≡ test w.0
  word_passes kept w there = one_answer (number_passes v.words test w.1) (test w.0) (only, all) (λ e. e, λ e. e)
    where
      only : number_passes v.words test w.1 ≡ true → test w.0 ≡ true
      only any =
          let found = among_from_any (λ (x : List ℕ × ℕ). (x.1 == w.1) && test x.0) v.words any in
          let parts = and_parts (found.0.1 == w.1) (test found.0.0) found.2 in
          let same = (bytes_eq-Decides found.0.0 w.0).0 (kept.apart found.0 w (contains_from_among v.words found.0 found.1) there ∙ parts.0) in
          ap test (sym same) ∙ parts.1

      all : test w.0 ≡ true → number_passes v.words test w.1 ≡ true
      all passes = any_from_among (λ (x : List ℕ × ℕ). (x.1 == w.1) && test x.0) v.words w (among_from_contains v.words w there) (and_from (w.1 == w.1) (test w.0) (eq-eqb w.1 w.1 refl) passes)

  -- a word is marked exactly if it passes
  pub marked_at : IsView v → (marks : Rows) → AreMarked v test marks → (w : List ℕ × ℕ) → Contains v.words w → get marks 0 w.1 ≡ test w.0
  marked_at kept marks are w there = are.marked w.1 (kept.numbers w there) ∙ word_passes kept w there

  -- a number that is marked is that of a word that passes
  pub marked_only : (marks : Rows) → AreMarked v test marks → (n : ℕ) → n < v.limits.props → get marks 0 n ≡ true → (w : List ℕ × ℕ) × Contains v.words w × (w.1 ≡ n) × (test w.0 ≡ true)
  marked_only marks are n lt set =
      let found = among_from_any (λ (x : List ℕ × ℕ). (x.1 == n) && test x.0) v.words (sym (are.marked n lt) ∙ set) in
      let parts = and_parts (found.0.1 == n) (test found.0.0) found.2 in
      (found.0, contains_from_among v.words found.0 found.1, eqb-true found.0.1 n parts.0, parts.1)

-- ---- locals
module _ (v : Seen) (files : List Entry) (kept : IsView v) where
  -- each of the file's words is known
  covered : (f : Placed) → Contains v.files f → is_covered files v.words f.entry ≡ list_any (is_candidate files) f.entry.words
  covered f there = one_answer (is_covered files v.words f.entry) (list_any (is_candidate files) f.entry.words) (to_word, from_word) (λ e. e, λ e. e)
    where
      to_word : is_covered files v.words f.entry ≡ true → list_any (is_candidate files) f.entry.words ≡ true
      to_word any =
          let some = among_from_any (λ (x : List ℕ × ℕ). is_candidate files x.0 && has_word f.entry.words x.0) v.words any in
          let parts = and_parts (is_candidate files some.0.0) (has_word f.entry.words some.0.0) some.2 in
          let word = among_from_any (λ (y : List ℕ). same_word y some.0.0) f.entry.words parts.1 in
          any_from_among (is_candidate files) f.entry.words word.0 word.1 (ap (is_candidate files) ((bytes_eq-Decides word.0 some.0.0).0 word.2) ∙ parts.0)

      from_word : list_any (is_candidate files) f.entry.words ≡ true → is_covered files v.words f.entry ≡ true
      from_word any =
          let some = among_from_any (is_candidate files) f.entry.words any in
          let known = kept.known f some.0 there (contains_from_among f.entry.words some.0 some.1) in
          let has : has_word f.entry.words known.0.0 ≡ true = any_from_among (λ (y : List ℕ). same_word y known.0.0) f.entry.words some.0 some.1 ((bytes_eq-Decides some.0 known.0.0).1 (sym known.2)) in
          any_from_among (λ (x : List ℕ × ℕ). is_candidate files x.0 && has_word f.entry.words x.0) v.words known.0 (among_from_contains v.words known.0 known.1)
          (and_from (is_candidate files known.0.0) (has_word f.entry.words known.0.0) (ap (is_candidate files) known.2 ∙ some.2) has)

  pub left_all : (found locals : Rows) (k : ℕ) → k ≡ v.limits.files → LocalsTo v files found k locals → LeavesLocals v files found locals
  left_all found locals k all to = record {
    shape = to.shape;
    left = λ f there. let low = kept.slots f there in to.done f there (omega arith) ∙ ap (λ b. get found 0 f.slot && not b) (covered f there);
  }

  pub locals_none : (found old new : Rows) → SetsBits old new 1 v.limits.files 0 (get found 0) → LocalsTo v files found 0 new
  locals_none found old new sets = record { shape = sets.shape; done = λ f there lt. absurd (omega arith); left = λ slot ge lt. sets.at slot lt }

  pub locals_more : (found old new : Rows) (k : ℕ) → LocalsTo v files found k old → k < v.limits.files → HasShape new 1 v.limits.files → ((slot : ℕ) → slot < v.limits.files → slot ≢ k → get new 0 slot ≡ get old 0 slot)
      → ((f : Placed) → Contains v.files f → f.slot ≡ k → get new 0 k ≡ (get old 0 k && not (is_covered files v.words f.entry))) → LocalsTo v files found (k + 1) new
  locals_more found old new k to k_in shape others own = record {
    shape = shape;
    done = λ f there lt. at f there lt (cases_eq f.slot k);
    left = λ slot ge lt. let differ : slot ≢ k = omega arith in others slot lt differ ∙ to.left slot (omega arith) lt;
  }
    where
      at : (f : Placed) → Contains v.files f → f.slot < k + 1 → (f.slot ≡ k) ⊎ (f.slot ≡ k → ⊥) → get new 0 f.slot ≡ (get found 0 f.slot && not (is_covered files v.words f.entry))
      at f there lt (inl same) = let low : k ≤ k = omega arith in ap (get new 0) same ∙ (own f there same ∙ ap (λ b. b && not (is_covered files v.words f.entry)) (to.left k low k_in ∙ ap (get found 0) (sym same)))
      at f there lt (inr differ) = others f.slot (kept.slots f there) differ ∙ to.done f there (omega arith)

-- a file that is found and that no word covers is a local
pub kept_whole : (a : Bool) → a ≡ (a && not false)
kept_whole true = refl
kept_whole false = refl

pub taken : (a : Bool) → false ≡ (a && not true)
taken true = refl
taken false = refl

-- the bit of a number that is a word's
pub numbered_bits : (old new : Rows) (bits at number : ℕ) → at ≡ number → (f : ℕ → Bool) (b : Bool) → f at ≡ b → SetsBits old new 1 bits 0 (λ n. get old 0 n || ((number == n) && f number)) → SetsBits old new 1 bits 0 (λ n. get old 0 n || ((at == n) && b))
numbered_bits old new bits at number same f b told sets = record { shape = sets.shape; at = λ n lt. sets.at n lt ∙ rw (← same, told) refl; others = sets.others }

-- the numbers that are marked are those of words that split the files
pub covered_is : (v : Seen) → IsView v → (files : List Entry) (marks : Rows) → AreMarked v (is_candidate files) marks → (e : ext.Ext) → TellsFiles v e → ext.IsKept e → (f : Placed) → Contains v.files f
    → list_any (get marks 0) (ext.set_of e f.slot) ≡ is_covered files v.words f.entry
covered_is v kept files marks are e tells keeps f here = one_answer (list_any (get marks 0) (ext.set_of e f.slot)) (is_covered files v.words f.entry) (only, all) (λ e. e, λ e. e)
  where
    only : list_any (get marks 0) (ext.set_of e f.slot) ≡ true → is_covered files v.words f.entry ≡ true
    only any =
        let some = among_from_any (get marks 0) (ext.set_of e f.slot) any in
        let low = each_below e.props (ext.set_of e f.slot) (keeps.in_range f.slot (omega (arith, kept.slots f here, tells.files))) some.0 some.1 in
        let word = marked_only v (is_candidate files) marks are some.0 (omega (arith, tells.props)) some.2 in
        let has = ap (λ n. ext.has e n f.slot) word.2 ∙ (has_decides (ext.set_of e f.slot) some.0).1 some.1 in
        any_from_among (λ (x : List ℕ × ℕ). is_candidate files x.0 && has_word f.entry.words x.0) v.words word.0 (among_from_contains v.words word.0 word.1) (and_from (is_candidate files word.0.0) (has_word f.entry.words word.0.0) word.3 (sym (tells.told word.0 f word.1 here) ∙ has))

    all : is_covered files v.words f.entry ≡ true → list_any (get marks 0) (ext.set_of e f.slot) ≡ true
    all any =
        let some = among_from_any (λ (x : List ℕ × ℕ). is_candidate files x.0 && has_word f.entry.words x.0) v.words any in
        let there = contains_from_among v.words some.0 some.1 in
        let parts = and_parts (is_candidate files some.0.0) (has_word f.entry.words some.0.0) some.2 in
        any_from_among (get marks 0) (ext.set_of e f.slot) some.0.1 ((has_decides (ext.set_of e f.slot) some.0.1).0 (tells.told some.0 f there here ∙ parts.1)) (marked_at v (is_candidate files) kept marks are some.0 there ∙ parts.0)
