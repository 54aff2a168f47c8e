-- A file has a candidate among its words exactly if it has an increment.
use Rattle.std.proofs.Common.{◌≡◌, ◌⊎◌, ◌↔◌, ℕ, Bool, true, false, not, ◌&&◌, List, filter, refl, sym, ap, subst, ◌∙◌, inl, inr}
use Rattle.std.specs.List.{list_any, Contains}
use Rattle.std.proofs.lemmas.Bool.{and_parts, and_from, not-true, not_from_false, false_from_ne_true}
use Rattle.lis_graph.proofs.Members.{Among, among_from_any, any_from_among, among_filter, filter_among, among_from_contains, contains_from_among}
pub use Rattle.lis_graph.proofs.Filters.{filter_same}
use Rattle.lis_words.specs.Words.{same_word, has_word}
use Rattle.lis_grammar.specs.Formula.{Formula}
use Rattle.lis_model.specs.Table.{Table, Entry, entails}
use Rattle.lis_model.specs.Listing.{holds_all, extension, is_candidate, is_above, is_increment, increments, is_local, locals}
use Rattle.lis_laws.specs.Laws.{is_uncovered}
use Rattle.lis_laws.proofs.Members.{same_word_decides, among_from_has_word, has_word_from_among}
use Rattle.lis_laws.proofs.Tops.{Top, topmost}
use Rattle.lis_laws.proofs.Tables.{Sound}
pub use Rattle.lis_laws.proofs.Tables.{same_tests}

-- ---- the order of candidates
above_level : (t : Table) (files : List Entry) (p : List ℕ) → is_above t files p p ≡ false
above_level t files p = by (entails t p p) (is_candidate files p) (same_word p p) ((same_word_decides p p).1 refl)
  where
    by : (a c e : Bool) → e ≡ true → (a && not e && c) ≡ false
    by a c false h = absurd cc
    by true c true h = refl
    by false c true h = refl

pub record Above (t : Table) (files : List Entry) (p q : List ℕ) : Type 0 where
  pub entailed : entails t p q ≡ true
  pub other : same_word q p ≡ false
  pub candidate : is_candidate files q ≡ true

above_parts : (t : Table) (files : List Entry) (p q : List ℕ) → is_above t files p q ≡ true → Above t files p q
above_parts t files p q h =
    let outer = and_parts _ _ h in
    let inner = and_parts _ _ outer.0 in
    record { entailed = inner.0; other = not-true _ inner.1; candidate = outer.1 }

pub above_from : (t : Table) (files : List Entry) (p q : List ℕ) → Above t files p q → is_above t files p q ≡ true
above_from t files p q a = and_from _ _ (and_from _ _ a.entailed (not_from_false _ a.other)) a.candidate

above_transitive : (t : Table) → Sound t → (files : List Entry) (p q r : List ℕ) → is_above t files p q ≡ true → is_above t files q r ≡ true → is_above t files p r ≡ true
above_transitive t sound files p q r h k = by (above_parts t files p q h) (above_parts t files q r k)
  where
    by : Above t files p q → Above t files q r → is_above t files p r ≡ true
    by low high = above_from t files p r (record { entailed = sound.trans p q r low.entailed high.entailed; other = false_from_ne_true _ apart; candidate = high.candidate })
      where
        apart : same_word r p ≡ true → ⊥
        apart same =
            let back = subst (λ w. entails t q w ≡ true) ((same_word_decides r p).0 same) high.entailed in
            let tie = sound.antisym q p back low.entailed in
            let yes_same = (same_word_decides q p).1 tie in
            let not_same = low.other in
            cc

-- ---- candidates and increments
-- an increment at or above a candidate among the words of a file, and so among them too
pub record Cover (t : Table) (files : List Entry) (file : Entry) (p : List ℕ) : Type 0 where
  pub cover : List ℕ
  pub listed : Among (filter (is_increment t files) t.known) cover
  pub from : (p ≡ cover) ⊎ (entails t p cover ≡ true)
  pub has : Among file.words cover

pub covered : (t : Table) → Sound t → (files : List Entry) (file : Entry) → Among t.files file → (p : List ℕ) → Among file.words p → is_candidate files p ≡ true → Cover t files file p
covered t sound files file m p has candidate = by (topmost (is_above t files) (above_level t files) (above_transitive t sound files) t.known p)
  where
    holds_above : (q : List ℕ) → (p ≡ q) ⊎ (is_above t files p q ≡ true) → ((p ≡ q) ⊎ (entails t p q ≡ true)) × Among file.words q × (is_candidate files q ≡ true)
    holds_above q (inl same) = (inl same, subst (λ w. Among file.words w) same has, subst (λ w. is_candidate files w ≡ true) same candidate)
    holds_above q (inr above) =
        let parts = above_parts t files p q above in
        (inr parts.entailed, sound.closed file m p q has parts.entailed, parts.candidate)

    by : Top (is_above t files) (above_level t files) (above_transitive t sound files) t.known p → Cover t files file p
    by top =
        let found = holds_above top.top top.from in
        record {
          cover = top.top;
          listed = filter_among (is_increment t files) t.known top.top (sound.in_known file m top.top found.1) (and_from _ _ found.2 (not_from_false _ top.none));
          from = found.0;
          has = found.1;
        }

pub candidate_of_increment : (t : Table) (files : List Entry) (p : List ℕ) → Among (filter (is_increment t files) t.known) p → is_candidate files p ≡ true
candidate_of_increment t files p m = (and_parts _ _ (among_filter (is_increment t files) t.known p m).1).0

pub in_table : (t : Table) (place : List Formula) (file : Entry) → Among (extension t place) file → Among t.files file
in_table t place file m = (among_filter (holds_all place) t.files file m).0

pub candidate_known : (t : Table) → Sound t → (place : List Formula) (p : List ℕ) → is_candidate (extension t place) p ≡ true → Among t.known p
candidate_known t sound place p h =
    let found = among_from_any (λ (file : Entry). has_word file.words p) (extension t place) (and_parts _ _ h).0 in
    sound.in_known found.0 (in_table t place found.0 found.1) p (among_from_has_word found.0.words p found.2)

-- no candidate covers a file exactly if no increment does
pub local_is : (t : Table) → Sound t → (place : List Formula) (file : Entry) → Among (extension t place) file
    → is_local (extension t place) file ≡ is_uncovered (increments t place) file
local_is t sound place file m = ap (λ b. not b) (same_tests _ _ to from)
  where
    to : list_any (is_candidate (extension t place)) file.words ≡ true → list_any (has_word file.words) (increments t place) ≡ true
    to h =
        let found = among_from_any (is_candidate (extension t place)) file.words h in
        let top = covered t sound (extension t place) file (in_table t place file m) found.0 found.1 found.2 in
        any_from_among (has_word file.words) (increments t place) top.cover top.listed (has_word_from_among file.words top.cover top.has)

    from : list_any (has_word file.words) (increments t place) ≡ true → list_any (is_candidate (extension t place)) file.words ≡ true
    from h =
        let found = among_from_any (has_word file.words) (increments t place) h in
        any_from_among (is_candidate (extension t place)) file.words found.0 (among_from_has_word file.words found.0 found.2)
        (candidate_of_increment t (extension t place) found.0 found.1)

pub locals_are : (t : Table) → Sound t → (place : List Formula) → locals t place ≡ filter (is_uncovered (increments t place)) (extension t place)
locals_are t sound place = filter_same (is_local (extension t place)) (is_uncovered (increments t place)) (extension t place) (local_is t sound place)

pub local_by_file : (t : Table) → Sound t → (place : List Formula) (file : Entry)
    → Contains (locals t place) file ↔ (Contains (extension t place) file × ((p : List ℕ) → Contains (increments t place) p → Contains file.words p → ⊥))
local_by_file t sound place file = (
  λ h. to (among_filter (is_local (extension t place)) (extension t place) file (among_from_contains (locals t place) file h)),
  λ h. contains_from_among (locals t place) file (from (among_from_contains (extension t place) file h.0) h.1),
)
  where
    to : Among (extension t place) file × (is_local (extension t place) file ≡ true) → Contains (extension t place) file × ((p : List ℕ) → Contains (increments t place) p → Contains file.words p → ⊥)
    to found = (
      contains_from_among (extension t place) file found.0,
      λ p incr has.
          let open_file = sym (local_is t sound place file found.0) ∙ found.1 in
          let covers = any_from_among (has_word file.words) (increments t place) p (among_from_contains (increments t place) p incr) (has_word_from_among file.words p (among_from_contains file.words p has)) in
          let free = not-true _ open_file in
          cc,
    )

    from : Among (extension t place) file → ((p : List ℕ) → Contains (increments t place) p → Contains file.words p → ⊥) → Among (locals t place) file
    from m none =
        filter_among (is_local (extension t place)) (extension t place) file m
        (local_is t sound place file m ∙ not_from_false _ (false_from_ne_true _ free))
      where
        free : list_any (has_word file.words) (increments t place) ≡ true → ⊥
        free h =
            let found = among_from_any (has_word file.words) (increments t place) h in
            none found.0 (contains_from_among (increments t place) found.0 found.1)
            (contains_from_among file.words found.0 (among_from_has_word file.words found.0 found.2))
