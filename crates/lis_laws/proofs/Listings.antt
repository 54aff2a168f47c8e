-- The words of a listing narrow its place, and are the most general of the candidates, which are the known words that do.
use Rattle.std.proofs.Common.{◌≡◌, ◌⊎◌, ℕ, ◌<◌, Bool, true, false, not, ◌||◌, cond, List, [], ◌∷◌, length, filter, refl, sym, subst, inl, inr, arith}
use Rattle.std.specs.List.{list_any, Contains}
use Rattle.std.proofs.lemmas.Bool.{and_parts, and_from, not-true, both_ways}
use Rattle.lis_graph.proofs.Members.{Among, among_from_any, any_from_among, among_filter, among_from_contains, contains_from_among}
use Rattle.lis_words.specs.Words.{same_word, has_word}
use Rattle.lis_grammar.specs.Formula.{Formula}
use Rattle.lis_model.specs.State.{State, WellFormed, Entails, up, known}
use Rattle.lis_model.specs.Table.{Table, Entry, table, entails}
use Rattle.lis_model.specs.Listing.{extension, is_candidate, is_above, is_increment, increments}
use Rattle.lis_laws.specs.Listings.{further, Narrows, IsCovered, Refines}
use Rattle.lis_laws.proofs.Members.{same_word_decides, among_from_has_word}
use Rattle.lis_laws.proofs.Chains.{up_self, up_from_entails, entails_from_up}
use Rattle.lis_laws.proofs.Tables.{Sound, entails_apart, entails_made, table_sound}
use Rattle.lis_laws.proofs.Locals.{above_from, covered, candidate_of_increment, in_table, candidate_known}
use Rattle.lis_laws.proofs.Routes.{extension_further, increment_known, further_fewer, further_inside, some_files}

-- ---- what a test leaves
module _ {K : Type 0} (f : K → Bool) where
  some_pass : (xs : List K) → 0 < length (filter f xs) → list_any f xs ≡ true
  some_pass [] h = absurd (omega (arith, h))
  some_pass (x ∷ xs) h = by (f x) h (some_pass xs)
    where
      by : (b : Bool) → 0 < length (cond b (x ∷ filter f xs) (filter f xs)) → (0 < length (filter f xs) → list_any f xs ≡ true) → (b || list_any f xs) ≡ true
      by true some more = refl
      by false some more = more some

  some_fail : (xs : List K) → length (filter f xs) < length xs → list_any (λ x. not (f x)) xs ≡ true
  some_fail [] h = absurd (omega (arith, h))
  some_fail (x ∷ xs) h = by (f x) h (some_fail xs)
    where
      by : (b : Bool) → length (cond b (x ∷ filter f xs) (filter f xs)) < length (x ∷ xs) → (length (filter f xs) < length xs → list_any (λ y. not (f y)) xs ≡ true)
          → (not b || list_any (λ y. not (f y)) xs) ≡ true
      by true fewer more = more (omega (arith, fewer))
      by false fewer more = refl

-- ---- candidates
module _ (t : Table) (sound : Sound t) (place : List Formula) (p : List ℕ) where
  candidate_narrows : is_candidate (extension t place) p ≡ true → Narrows t place p
  candidate_narrows candidate = record {
    some = some_files t (further place p) found.0 (further_inside t sound place p there found.0 found.1 found.2);
    inside = λ file m. contains_from_among (extension t place) file (among_filter (λ (f : Entry). has_word f.words p) (extension t place) file
        (subst (λ (files : List Entry). Among files file) (extension_further t sound place p there) (among_from_contains (extension t (further place p)) file m))).0;
    fewer = further_fewer t sound place p candidate;
  }
    where
      there : Among t.known p
      there = candidate_known t sound place p candidate

      found : (file : Entry) × Among (extension t place) file × (has_word file.words p ≡ true)
      found = among_from_any (λ (file : Entry). has_word file.words p) (extension t place) (and_parts _ _ candidate).0

  narrowing_candidate : Among t.known p → Narrows t place p → is_candidate (extension t place) p ≡ true
  narrowing_candidate there narrows =
      and_from _ _
      (some_pass (λ (file : Entry). has_word file.words p) (extension t place) (subst (λ (files : List Entry). 0 < length files) (extension_further t sound place p there) narrows.some))
      (some_fail (λ (file : Entry). has_word file.words p) (extension t place)
      (subst (λ (files : List Entry). length files < length (extension t place)) (extension_further t sound place p there) narrows.fewer))

-- ---- the listing of a well-formed state
module _ (s : State) (formed : WellFormed s) (place : List Formula) where
  a_candidate : (p : List ℕ) → is_candidate (extension (table s) place) p ≡ true → Among (known s) p
  a_candidate p candidate = candidate_known (table s) (table_sound s formed) place p candidate

  listed_candidate : (p : List ℕ) → Contains (increments (table s) place) p → is_candidate (extension (table s) place) p ≡ true
  listed_candidate p m = candidate_of_increment (table s) (extension (table s) place) p (among_from_contains (increments (table s) place) p m)

  is_covered : (p : List ℕ) → is_candidate (extension (table s) place) p ≡ true → IsCovered s place p
  is_covered p candidate = by found.0 found.1 found.2
    where
      found : (file : Entry) × Among (extension (table s) place) file × (has_word file.words p ≡ true)
      found = among_from_any (λ (file : Entry). has_word file.words p) (extension (table s) place) (and_parts _ _ candidate).0

      leads : (q : List ℕ) → (p ≡ q) ⊎ (entails (table s) p q ≡ true) → Entails s.declared s.axioms p q
      leads q (inl same) = entails_from_up s.declared s.axioms p q (subst (λ (w : List ℕ). Among (up s.declared s.axioms p) w) same (up_self s.declared s.axioms p))
      leads q (inr entailed) = entails_from_up s.declared s.axioms p q (entails_apart s p q entailed).1

      by : (file : Entry) → Among (extension (table s) place) file → has_word file.words p ≡ true → IsCovered s place p
      by file m has =
          let top = covered (table s) (table_sound s formed) (extension (table s) place) file (in_table (table s) place file m) p (among_from_has_word file.words p has) candidate in
          record { cover = top.cover; listed = contains_from_among (increments (table s) place) top.cover top.listed; entailed = leads top.cover top.from }

  none_above : (p q : List ℕ) → Contains (increments (table s) place) p → is_candidate (extension (table s) place) q ≡ true → Entails s.declared s.axioms p q → p ≡ q
  none_above p q listed candidate chain = by (same_word q p) refl
    where
      m : Among (increments (table s) place) p
      m = among_from_contains (increments (table s) place) p listed

      is_under : Bool
      is_under = list_any (is_above (table s) (extension (table s) place) p) (known s)

      none : is_under ≡ false
      none = not-true is_under (and_parts (is_candidate (extension (table s) place) p) (not is_under) (among_filter (is_increment (table s) (extension (table s) place)) (known s) p m).1).1

      above : same_word q p ≡ false → is_under ≡ true
      above other =
          any_from_among (is_above (table s) (extension (table s) place) p) (known s) q (a_candidate q candidate)
          (above_from (table s) (extension (table s) place) p q (record { entailed = entails_made s p q (increment_known (table s) place p m) (up_from_entails s.declared s.axioms p q chain); other = other; candidate = candidate }))

      by : (b : Bool) → same_word q p ≡ b → p ≡ q
      by true e = sym ((same_word_decides q p).0 e)
      by false e = absurd (both_ways is_under none (above e))

  pub listing_refines : Refines s place
  listing_refines = record {
    narrows = λ p listed. candidate_narrows (table s) (table_sound s formed) place p (listed_candidate p listed);
    candidates = λ p. (
      λ candidate. (contains_from_among (known s) p (a_candidate p candidate), candidate_narrows (table s) (table_sound s formed) place p candidate),
      λ both. narrowing_candidate (table s) (table_sound s formed) place p (among_from_contains (known s) p both.0) both.1,
    );
    covered = is_covered;
    listed = listed_candidate;
    most_general = none_above;
  }
