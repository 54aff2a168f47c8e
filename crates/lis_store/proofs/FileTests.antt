-- Tests in the descriptions of files: a file has those that its size meets, and no others.
use Rattle.std.proofs.Common.{rules}
use Rattle.lis_store.proofs.Common.{◌≡◌, ◌⊎◌, ℕ, Bool, true, false, Option, Some, None, is_some, List, ◌++◌, refl, sym, ap, subst, ◌∙◌, inl, inr, list_all, Among, among_append, among_filter, among_right, filter_among, is_taken, rec_at, Dict, word_of, has, is_prop, FileRecord, has_word, is_plain_word, is_test, test_of, plain_not_test, up, is_assignable, is_built_in, is_met, met_tests, up_self, entails_from_up, entailing, among_from_has_word, met_weaker, Metadata, property_by, AreSound, declared_of, axioms_of, test_by, some_word, declared_word, among_axiom, both_ways, false_from_ne_true, entailed_in, all_among, has_word_from_among, same_tests}
use Rattle.lis_fields.specs.Layouts.{is_undeclared}
use Rattle.lis_words.proofs.Tests.{valued_not_test}
use Rattle.lis_laws.proofs.Apart.{built_in_not_test}
use Rattle.lis_laws.proofs.Chains.{IsWeakerIn, weaker_tests_are}
use Rattle.lis_laws.proofs.Leads.{test_leads}
use Rattle.lis_laws.proofs.Sources.{Assignable, assignable_cases}
use Rattle.lis_laws.proofs.Sources.Assignable.{Plain, Valued}
use Rattle.lis_kept.proofs.OwnLinks.{undeclared_not_test}
use Rattle.lis_store.specs.Drafts.{Draft}
use Rattle.lis_store.specs.Admitting.{described_by}
use Rattle.lis_store.specs.Stored.{TestsAreMet}

module _ (k : Metadata) (sound : AreSound k) where
  abbrev D : List (List ℕ)
  D = declared_of k

  abbrev A : List (List ℕ × List ℕ)
  A = axioms_of k

  rights_plain : (e : List ℕ × List ℕ) → Among A e → is_plain_word e.1 ≡ true
  rights_plain e m = let found = among_axiom k sound e m in (sound.axioms found.0 found.1 found.2 found.3).plain e.1 found.5

  -- a test that has a number is declared
  pub test_flagged : (n : ℕ) (w : List ℕ) → word_of k.dict n ≡ Some w → is_test w ≡ true → is_taken k.declared n ≡ true
  test_flagged n w is test = by (is_taken k.declared n) refl
    where
      formed : is_taken k.declared n ≡ false → is_undeclared w ≡ true
      formed e = sym (ap (λ b. is_prop (property_by (Some w) b)) e) ∙ (sym (ap (λ o. is_prop (property_by o (is_taken k.declared n))) is) ∙ sound.properties n)

      by : (b : Bool) → is_taken k.declared n ≡ b → is_taken k.declared n ≡ true
      by true e = e
      by false e = absurd (both_ways (is_test w) (undeclared_not_test w (formed e)) test)

  -- no test is assigned to a file
  pub assigned_no_test : (words : List (List ℕ)) → list_all (is_assignable D) words ≡ true → (w : List ℕ) → Among words w → is_test w ≡ false
  assigned_no_test words given w m = by (assignable_cases D w (all_among (is_assignable D) words w given m))
    where
      by : Assignable D w → is_test w ≡ false
      by (Plain plain there) = plain_not_test w plain
      by (Valued valued there) = valued_not_test w valued

  module _ (draft : Draft) (given : list_all (is_assignable D) draft.assigned ≡ true) (own : list_all is_built_in draft.own ≡ true) where
    abbrev tests : List (List ℕ)
    tests = met_tests D draft.size

    abbrev words : List (List ℕ)
    words = draft.assigned ++ draft.own ++ tests

    own_met : (w : List ℕ) → is_test w ≡ true → Among words w → is_met (test_of w) draft.size ≡ true
    own_met w test m = search (rules, among_append, assigned_no_test, built_in_not_test, all_among, both_ways, among_filter)

    had_met : (w : List ℕ) → is_test w ≡ true → Among (described_by k draft) w → is_met (test_of w) draft.size ≡ true
    had_met w test m = at (entailing D A words w m)
      where
        by : (source : List ℕ) → Among words source → (source ≡ w) ⊎ IsWeakerIn D source w → is_met (test_of w) draft.size ≡ true
        by source m (inl same) = own_met w test (subst (λ v. Among words v) same m)
        by source m (inr less) = met_weaker (test_of w) (test_of source) draft.size less.weaker (own_met source (weaker_tests_are D source w less).0 m)

        at : (source : List ℕ) × Among words source × Among (up D A source) w → is_met (test_of w) draft.size ≡ true
        at found =
            let chain = entails_from_up D A found.0 w found.2 in
            by found.0 found.1 (test_leads is_plain_word (λ v h. h) A rights_plain D chain.0 found.0 w test chain.1)

    -- a description has the tests that the size meets
    pub test_described : (n : ℕ) (w : List ℕ) → word_of k.dict n ≡ Some w → is_test w ≡ true → has_word (described_by k draft) w ≡ is_met (test_of w) draft.size
    test_described n w is test =
        same_tests (has_word (described_by k draft) w) (is_met (test_of w) draft.size)
        (λ h. had_met w test (among_from_has_word (described_by k draft) w h))
        (λ met. has_word_from_among (described_by k draft) w
        (entailed_in D A words w w
        (among_right (draft.assigned ++ draft.own) tests w (filter_among (λ x. is_met (test_of x) draft.size) D w (declared_word k sound n w is (test_flagged n w is test)) met))
        (up_self D A w)))

-- a declared number has the word that it had, when words are added
pub flagged_before : (p : Metadata) → AreSound p → (d : Dict) → ((n : ℕ) (w : List ℕ) → word_of p.dict n ≡ Some w → word_of d n ≡ Some w)
    → (n : ℕ) (w : List ℕ) → is_taken p.declared n ≡ true → word_of d n ≡ Some w → word_of p.dict n ≡ Some w
flagged_before p sound d keeps n w bit is = let word = some_word (word_of p.dict n) (sound.flagged n bit) in word.1 ∙ (sym (keeps n word.0 word.1) ∙ is)

-- ---- tests that have numbers
-- a test is the word of its number
pub tested_word : (o : Option (List ℕ)) → is_some (test_by o) ≡ true → (w : List ℕ) × (o ≡ Some w) × (is_test w ≡ true)
tested_word None test = absurd (both_ways false refl test)
tested_word (Some w) test = (w, refl, test)

-- tests stay met, if the records of slots and the words of tests were there before and descriptions have the tests that they had
pub tests_stay : (p q : Metadata) → ((at : ℕ) (rec : FileRecord) → rec_at q.catalog at ≡ Some rec → rec_at p.catalog at ≡ Some rec)
    → ((n : ℕ) (w : List ℕ) → word_of q.dict n ≡ Some w → is_test w ≡ true → word_of p.dict n ≡ Some w)
    → ((n at : ℕ) (rec : FileRecord) (w : List ℕ) → rec_at q.catalog at ≡ Some rec → word_of p.dict n ≡ Some w → is_test w ≡ true → has q.ext n at ≡ has p.ext n at)
    → TestsAreMet p → TestsAreMet q
tests_stay p q files words rows tests = record {
  given = λ at rec there n tag. false_from_ne_true (is_some (test_by (word_of q.dict n))) (λ test.
      let w = tested_word (word_of q.dict n) test in
      both_ways (is_some (test_by (word_of p.dict n))) (tests.given at rec (files at rec there) n tag) (ap (λ o. is_some (test_by o)) (words n w.0 w.1 w.2) ∙ w.2));
  met = λ at rec there n test.
      let w = tested_word (word_of q.dict n) test in
      let was = words n w.0 w.1 w.2 in
      rows n at rec w.0 there was w.2
      ∙ (tests.met at rec (files at rec there) n (ap (λ o. is_some (test_by o)) was ∙ w.2)
      ∙ ap (λ o. is_met (test_by o) rec.size) (was ∙ sym w.1));
}
