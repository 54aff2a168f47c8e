-- What a table keeps: its entailment has no ties, each file has all that its words entail, and the step of a word holds of the files that
-- have the word.
use Rattle.std.proofs.Common.{◌≡◌, ℕ, Bool, true, false, nat_lt, nat_le, ◌&&◌, cond, Option, Some, None, is_some, List, length, refl, sym, ap, subst, ◌∙◌}
use Rattle.std.proofs.lemmas.Bool.{and_parts, and_from}
use Rattle.lis_graph.proofs.Members.{Among, among_from_any, any_from_among, among_map, map_among}
use Rattle.lis_words.specs.declared.test.Test.{Test}
use Rattle.lis_words.specs.Words.{same_word, has_word, test_of, is_test}
use Rattle.lis_grammar.specs.Formula.Formula.{SizeAtLeast, SizeBelow}
use Rattle.lis_model.specs.Tests.{is_met, step_by, step_of}
use Rattle.lis_model.specs.State.{State, File, WellFormed, up, own_words, description, known}
use Rattle.lis_model.specs.Table.{Table, Entry, entry_of, table, entails}
use Rattle.lis_model.specs.Listing.{holds}
use Rattle.lis_laws.proofs.Members.{same_word_decides, among_from_has_word, has_word_from_among}
use Rattle.lis_laws.proofs.Chains.{up_self, up_trans, entails_from_up, no_ties}
use Rattle.lis_laws.proofs.Closures.{all_up_closed}
use Rattle.lis_laws.proofs.Sources.{file_has, described_known, test_had, known_test}
use Rattle.lis_laws.proofs.Sources.OwnWord.{Met}

-- The laws of listings and of routes hold of every such table.
pub record Sound (t : Table) : Type 0 where
  pub trans : (p q r : List ℕ) → entails t p q ≡ true → entails t q r ≡ true → entails t p r ≡ true
  pub antisym : (p q : List ℕ) → entails t p q ≡ true → entails t q p ≡ true → p ≡ q
  -- a file has what its words entail
  pub closed : (file : Entry) → Among t.files file → (p q : List ℕ) → Among file.words p → entails t p q ≡ true → Among file.words q
  pub in_known : (file : Entry) → Among t.files file → (p : List ℕ) → Among file.words p → Among t.known p
  -- the step of a known word holds of a file exactly if the file has the word
  pub steps : (file : Entry) → Among t.files file → (p : List ℕ) → Among t.known p → holds (step_of p) file ≡ has_word file.words p

-- ---- entailment, in the table of a state
pub entails_apart : (s : State) (p q : List ℕ) → entails (table s) p q ≡ true → Among (known s) p × Among (up s.declared s.axioms p) q
entails_apart s p q h =
    let found = among_from_any (λ (row : List ℕ × List (List ℕ)). same_word row.0 p && has_word row.1 q) (table s).entailed h in
    by found.0 found.1 (and_parts _ _ found.2)
  where
    at : (w : List ℕ) → Among (known s) w → w ≡ p → Among (up s.declared s.axioms w) q → Among (known s) p × Among (up s.declared s.axioms p) q
    at w m same up_q = (subst (λ k. Among (known s) k) same m, subst (λ k. Among (up s.declared s.axioms k) q) same up_q)

    by : (row : List ℕ × List (List ℕ)) → Among (table s).entailed row → (same_word row.0 p ≡ true) × (has_word row.1 q ≡ true) → Among (known s) p × Among (up s.declared s.axioms p) q
    by row m tests =
        let source = among_map (λ (w : List ℕ). (w, up s.declared s.axioms w)) (known s) row m in
        let left = ap (λ (r : List ℕ × List (List ℕ)). r.0) source.2 in
        let right = ap (λ (r : List ℕ × List (List ℕ)). r.1) source.2 in
        at source.0 source.1 (left ∙ (same_word_decides row.0 p).0 tests.0)
        (subst (λ (ws : List (List ℕ)). Among ws q) (sym right) (among_from_has_word row.1 q tests.1))

pub entails_made : (s : State) (p q : List ℕ) → Among (known s) p → Among (up s.declared s.axioms p) q → entails (table s) p q ≡ true
entails_made s p q m h =
    any_from_among (λ (row : List ℕ × List (List ℕ)). same_word row.0 p && has_word row.1 q) (table s).entailed (p, up s.declared s.axioms p)
    (map_among (λ (w : List ℕ). (w, up s.declared s.axioms w)) (known s) p m)
    (and_from _ _ ((same_word_decides p p).1 refl) (has_word_from_among (up s.declared s.axioms p) q h))

-- ---- the step of a word
-- two tests with the same meaning are one
pub same_tests : (a b : Bool) → (a ≡ true → b ≡ true) → (b ≡ true → a ≡ true) → a ≡ b
same_tests true b to from = sym (to refl)
same_tests false true to from = from refl
same_tests false false to from = refl

step_holds : (s : State) → WellFormed s → (file : File) → Among s.files file → (p : List ℕ) → Among (known s) p
    → holds (step_of p) (entry_of s.declared s.axioms file) ≡ has_word (description s file) p
step_holds s formed file m p there = by (test_of p) refl
  where
    size_of : (test : Test) → holds (step_by (Some test) p) (entry_of s.declared s.axioms file) ≡ is_met (Some test) (length file.bytes)
    size_of test = choice test.at_least
      where
        choice : (at_least : Bool) → holds (cond at_least (SizeAtLeast test.bytes) (SizeBelow test.bytes)) (entry_of s.declared s.axioms file) ≡ cond at_least (nat_le test.bytes (length file.bytes)) (nat_lt (length file.bytes) test.bytes)
        choice true = refl
        choice false = refl

    had : is_test p ≡ true → is_met (test_of p) (length file.bytes) ≡ true → has_word (description s file) p ≡ true
    had test met = has_word_from_among (description s file) p (file_has s file p p (Met (known_test s formed p test there) met) (up_self s.declared s.axioms p))

    meets : is_test p ≡ true → has_word (description s file) p ≡ true → is_met (test_of p) (length file.bytes) ≡ true
    meets test has = (test_had s formed file m p test (among_from_has_word (description s file) p has)).met

    by : (o : Option Test) → test_of p ≡ o → holds (step_by o p) (entry_of s.declared s.axioms file) ≡ has_word (description s file) p
    by None e = refl
    by (Some test) e =
        let is : is_test p ≡ true = ap (λ (o : Option Test). is_some o) e in
        size_of test ∙ sym (ap (λ (o : Option Test). is_met o (length file.bytes)) e)
        ∙ same_tests (is_met (test_of p) (length file.bytes)) (has_word (description s file) p) (had is) (meets is)

-- ---- the table of a state
pub table_sound : (s : State) → WellFormed s → Sound (table s)
table_sound s formed = record {
  trans = λ p q r first rest. joined p q r (entails_apart s p q first) (entails_apart s q r rest);
  antisym = λ p q there back. tied p q (entails_apart s p q there) (entails_apart s q p back);
  closed = λ file m p q h e. full file p q (among_map (entry_of s.declared s.axioms) s.files file m) h (entails_apart s p q e);
  in_known = λ file m p h. described file p (among_map (entry_of s.declared s.axioms) s.files file m) h;
  steps = λ file m p there. asked file p (among_map (entry_of s.declared s.axioms) s.files file m) there;
}
  where
    joined : (p q r : List ℕ) → Among (known s) p × Among (up s.declared s.axioms p) q → Among (known s) q × Among (up s.declared s.axioms q) r → entails (table s) p r ≡ true
    joined p q r first rest = entails_made s p r first.0 (up_trans s.declared s.axioms p q r first.1 rest.1)

    tied : (p q : List ℕ) → Among (known s) p × Among (up s.declared s.axioms p) q → Among (known s) q × Among (up s.declared s.axioms q) p → p ≡ q
    tied p q there back =
        no_ties s.declared s.axioms formed.axioms.acyclic p q (entails_from_up s.declared s.axioms p q there.1) (entails_from_up s.declared s.axioms q p back.1)

    full : (file : Entry) (p q : List ℕ) → (f : File) × Among s.files f × (entry_of s.declared s.axioms f ≡ file) → Among file.words p → Among (known s) p × Among (up s.declared s.axioms p) q → Among file.words q
    full file p q found m h =
        subst (λ (e : Entry). Among e.words q) found.2
        (all_up_closed s.declared s.axioms (own_words s.declared found.0) p q (subst (λ (e : Entry). Among e.words p) (sym found.2) m) h.1)

    described : (file : Entry) (p : List ℕ) → (f : File) × Among s.files f × (entry_of s.declared s.axioms f ≡ file) → Among file.words p → Among (known s) p
    described file p found m = described_known s found.0 p found.1 (subst (λ (e : Entry). Among e.words p) (sym found.2) m)

    asked : (file : Entry) (p : List ℕ) → (f : File) × Among s.files f × (entry_of s.declared s.axioms f ≡ file) → Among (known s) p → holds (step_of p) file ≡ has_word file.words p
    asked file p found there = subst (λ (e : Entry). holds (step_of p) e ≡ has_word e.words p) found.2 (step_holds s formed found.0 found.1 p there)
