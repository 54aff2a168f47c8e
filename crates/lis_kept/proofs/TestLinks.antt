-- The links between declared tests, by their numbers.
use Rattle.lis_kept.proofs.Common.{◌≡◌, ◌⊎◌, ℕ, ◌||◌, true, false, Option, Some, None, is_some, List, refl, sym, ap, ap₂, ◌∙◌, subst, inl, inr, and_parts, or_cases, IsDict, word_of, number_from_word, Taxonomy, has_edge, same_word, has_word, is_valued, head_bytes, is_test, are_weaker, same_word_decides, among_from_has_word, OwnLink, own_link, Head, Weaker, and_from, or_left, or_right, both_ways, false_from_ne_true, has_word_from_among, same_tests}
use Rattle.lis_blockmap.specs.Bitmap.{is_taken}
use Rattle.lis_words.specs.Words.{test_of}
use Rattle.lis_words.proofs.Tests.{plain_not_test}
use Rattle.lis_model.specs.State.{links}
use Rattle.lis_laws.proofs.Chains.{links_weaker, head_no_test, tests_by}
use Rattle.lis_kept.specs.Metadata.{Metadata}
use Rattle.lis_kept.specs.Sound.{AreSound}
use Rattle.lis_kept.specs.Telling.{bit_of, is_declared, declared_of, is_head_by}
use Rattle.lis_kept.specs.Links.{is_own_link, is_linked, is_edge, has_pair, AreHeld}
use Rattle.lis_kept.specs.TestEdges.{test_by, declared_test, is_test_link, is_next_test, TestsAreOrdered}
use Rattle.lis_kept.proofs.Formed.{some_word}
use Rattle.lis_kept.proofs.NextTests.{none_weaker, no_test, test_link, test_linked, next_parts}
use Rattle.lis_kept.proofs.OwnLinks.{pair_slot, own_head, unnamed_to, unnamed_from}
use Rattle.lis_kept.proofs.WordMore.{declared_there, there_declared}

-- ---- own links of words are those to heads and between tests
pub own_link_by : (k : Metadata) → IsDict k.dict → (p q : ℕ)
    → is_own_link (declared_of k) (word_of k.dict p) (word_of k.dict q) ≡ (is_head_by (word_of k.dict p) (word_of k.dict q) || is_test_link k.dict k.declared p q)
own_link_by k dict p q = by (word_of k.dict p) refl (word_of k.dict q) refl
  where
    -- the word of a number is declared exactly if its bit is set
    bit : (n : ℕ) (w : List ℕ) → word_of k.dict n ≡ Some w → is_declared k w ≡ is_taken k.declared n
    bit n w is = ap (bit_of k.declared) (number_from_word k.dict dict w n is)

    by : (o : Option (List ℕ)) → word_of k.dict p ≡ o → (r : Option (List ℕ)) → word_of k.dict q ≡ r → is_own_link (declared_of k) o r ≡ (is_head_by o r || is_test_link k.dict k.declared p q)
    by None e r f = sym (ap (are_weaker (declared_test k.dict k.declared q)) (no_test k.dict k.declared p e) ∙ none_weaker (declared_test k.dict k.declared q))
    by (Some w) e None f = sym (ap (λ t. are_weaker t (declared_test k.dict k.declared p)) (no_test k.dict k.declared q f))
    by (Some w) e (Some v) f = same_tests (has_word (links (declared_of k) w) v) (is_head_by (Some w) (Some v) || is_test_link k.dict k.declared p q) forth back
      where
        tests : are_weaker (test_by (word_of k.dict q)) (test_by (word_of k.dict p)) ≡ are_weaker (test_of v) (test_of w)
        tests = ap₂ (λ r o. are_weaker (test_by r) (test_by o)) f e

        forth : has_word (links (declared_of k) w) v ≡ true → (is_head_by (Some w) (Some v) || is_test_link k.dict k.declared p q) ≡ true
        forth has = cases (own_link (declared_of k) w v (among_from_has_word (links (declared_of k) w) v has))
          where
            cases : OwnLink (declared_of k) w v → (is_head_by (Some w) (Some v) || is_test_link k.dict k.declared p q) ≡ true
            cases (Head valued is) =
                or_left (is_head_by (Some w) (Some v)) (is_test_link k.dict k.declared p q) (and_from (is_valued w) (same_word (head_bytes w) v) valued ((same_word_decides (head_bytes w) v).1 is))
            cases (Weaker weaker) =
                or_right (is_head_by (Some w) (Some v)) (is_test_link k.dict k.declared p q)
                (test_linked k.dict k.declared p q (sym (bit p w e) ∙ there_declared k w weaker.from) (sym (bit q v f) ∙ there_declared k v weaker.to) (tests ∙ weaker.weaker))

        back : (is_head_by (Some w) (Some v) || is_test_link k.dict k.declared p q) ≡ true → has_word (links (declared_of k) w) v ≡ true
        back h = cases (or_cases (is_head_by (Some w) (Some v)) (is_test_link k.dict k.declared p q) h)
          where
            cases : (is_head_by (Some w) (Some v) ≡ true) ⊎ (is_test_link k.dict k.declared p q ≡ true) → has_word (links (declared_of k) w) v ≡ true
            cases (inl head) = own_head (declared_of k) (Some w) (Some v) head
            cases (inr linked) =
                let found = test_link k.dict k.declared p q linked in
                has_word_from_among (links (declared_of k) w) v (links_weaker (declared_of k) w v (record {
                  from = declared_there k w (bit p w e ∙ found.from);
                  to = declared_there k v (bit q v f ∙ found.to);
                  weaker = sym tests ∙ found.weaker;
                }))

-- all links, by numbers
pub linked_by : (k : Metadata) → IsDict k.dict → (p q : ℕ) → is_linked k p q ≡ ((is_head_by (word_of k.dict p) (word_of k.dict q) || is_test_link k.dict k.declared p q) || has_pair k.axioms p q)
linked_by k dict p q = ap (λ b. b || has_pair k.axioms p q) (own_link_by k dict p q)

-- ---- edges are links
-- that to a head, or between tests
own_edge : (k : Metadata) → IsDict k.dict → (p q : ℕ) → (is_head_by (word_of k.dict p) (word_of k.dict q) || is_next_test k.dict k.declared p q) ≡ true
    → is_own_link (declared_of k) (word_of k.dict p) (word_of k.dict q) ≡ true
own_edge k dict p q h = own_link_by k dict p q ∙ by (or_cases (is_head_by (word_of k.dict p) (word_of k.dict q)) (is_next_test k.dict k.declared p q) h)
  where
    by : (is_head_by (word_of k.dict p) (word_of k.dict q) ≡ true) ⊎ (is_next_test k.dict k.declared p q ≡ true) → (is_head_by (word_of k.dict p) (word_of k.dict q) || is_test_link k.dict k.declared p q) ≡ true
    by (inl head) = or_left (is_head_by (word_of k.dict p) (word_of k.dict q)) (is_test_link k.dict k.declared p q) head
    by (inr next) = or_right (is_head_by (word_of k.dict p) (word_of k.dict q)) (is_test_link k.dict k.declared p q) (next_parts k.dict dict k.declared p q next).0

pub no_own_edge : (k : Metadata) → IsDict k.dict → (p q : ℕ) → is_own_link (declared_of k) (word_of k.dict p) (word_of k.dict q) ≡ false
    → (is_head_by (word_of k.dict p) (word_of k.dict q) || is_next_test k.dict k.declared p q) ≡ false
no_own_edge k dict p q none =
    false_from_ne_true (is_head_by (word_of k.dict p) (word_of k.dict q) || is_next_test k.dict k.declared p q)
    (λ h. both_ways (is_own_link (declared_of k) (word_of k.dict p) (word_of k.dict q)) none (own_edge k dict p q h))

pub edge_linked : (k : Metadata) → IsDict k.dict → (p q : ℕ) → is_edge k p q ≡ true → is_linked k p q ≡ true
edge_linked k dict p q h = by (or_cases (is_head_by (word_of k.dict p) (word_of k.dict q) || is_next_test k.dict k.declared p q) (has_pair k.axioms p q) h)
  where
    by : ((is_head_by (word_of k.dict p) (word_of k.dict q) || is_next_test k.dict k.declared p q) ≡ true) ⊎ (has_pair k.axioms p q ≡ true) → is_linked k p q ≡ true
    by (inl own) = or_left (is_own_link (declared_of k) (word_of k.dict p) (word_of k.dict q)) (has_pair k.axioms p q) (own_edge k dict p q own)
    by (inr pair) = or_right (is_own_link (declared_of k) (word_of k.dict p) (word_of k.dict q)) (has_pair k.axioms p q) pair

-- if there is no link there is no edge
pub no_edge : (k : Metadata) → IsDict k.dict → (p q : ℕ) → is_linked k p q ≡ false → is_edge k p q ≡ false
no_edge k dict p q none = false_from_ne_true (is_edge k p q) (λ h. both_ways (is_linked k p q) none (edge_linked k dict p q h))

-- a number that has no word has no edge
pub none_to : (p : Metadata) (t : Taxonomy) → AreHeld p t → (number : ℕ) → word_of p.dict number ≡ None → (x : ℕ) → has_edge t x number ≡ false
none_to p t held number free x = held.links.edges x number ∙ no_edge p held.sound.dict x number (unnamed_to p held.sound number free x)

pub none_from : (p : Metadata) (t : Taxonomy) → AreHeld p t → (number : ℕ) → word_of p.dict number ≡ None → (x : ℕ) → has_edge t number x ≡ false
none_from p t held number free x = held.links.edges number x ∙ no_edge p held.sound.dict number x (unnamed_from p held.sound number free x)

-- ---- links to a test lead from stronger tests alone
pub no_head_none : (o : Option (List ℕ)) → is_head_by o None ≡ false
no_head_none None = refl
no_head_none (Some w) = refl

no_head_to : (o r : Option (List ℕ)) → is_some (test_by r) ≡ true → is_head_by o r ≡ false
no_head_to None r tested = refl
no_head_to (Some w) None tested = refl
no_head_to (Some w) (Some v) tested = false_from_ne_true (is_head_by (Some w) (Some v)) (λ h.
    let both = and_parts (is_valued w) (same_word (head_bytes w) v) h in
    head_no_test w (subst (λ u. is_test u ≡ true) (sym ((same_word_decides (head_bytes w) v).0 both.1)) tested))

no_pair_to_test : (k : Metadata) → AreSound k → (p q : ℕ) → is_some (test_by (word_of k.dict q)) ≡ true → has_pair k.axioms p q ≡ false
no_pair_to_test k sound p q tested = false_from_ne_true (has_pair k.axioms p q) (λ pair.
    let at = pair_slot k.axioms p q pair in
    let one = sound.axioms at.0 p q at.1 in
    let word = some_word (word_of k.dict q) one.right in
    both_ways (is_test word.0) (plain_not_test word.0 (one.plain word.0 word.1)) (subst (λ o. is_some (test_by o) ≡ true) word.1 tested))

-- a link between tests is no other one
pub beside_test : (k : Metadata) → AreSound k → (p q : ℕ) → is_test_link k.dict k.declared p q ≡ true → (is_head_by (word_of k.dict p) (word_of k.dict q) ≡ false) × (has_pair k.axioms p q ≡ false)
beside_test k sound p q link =
    let weaker = (test_link k.dict k.declared p q link).weaker in
    let tested = (tests_by (test_by (word_of k.dict q)) (test_by (word_of k.dict p)) weaker).0 in
    (no_head_to (word_of k.dict p) (word_of k.dict q) tested, no_pair_to_test k sound p q tested)

pub tests_ordered : (k : Metadata) (t : Taxonomy) → AreHeld k t → TestsAreOrdered k.dict t
tests_ordered k t held p q edge tested =
    by (or_cases (is_head_by (word_of k.dict p) (word_of k.dict q) || is_test_link k.dict k.declared p q) (has_pair k.axioms p q)
    (sym (linked_by k held.sound.dict p q) ∙ edge_linked k held.sound.dict p q (sym (held.links.edges p q) ∙ edge)))
  where
    own : (is_head_by (word_of k.dict p) (word_of k.dict q) ≡ true) ⊎ (is_test_link k.dict k.declared p q ≡ true) → are_weaker (test_by (word_of k.dict q)) (test_by (word_of k.dict p)) ≡ true
    own (inl head) = absurd (both_ways (is_head_by (word_of k.dict p) (word_of k.dict q)) (no_head_to (word_of k.dict p) (word_of k.dict q) tested) head)
    own (inr linked) = (test_link k.dict k.declared p q linked).weaker

    by : ((is_head_by (word_of k.dict p) (word_of k.dict q) || is_test_link k.dict k.declared p q) ≡ true) ⊎ (has_pair k.axioms p q ≡ true)
        → are_weaker (test_by (word_of k.dict q)) (test_by (word_of k.dict p)) ≡ true
    by (inl h) = own (or_cases (is_head_by (word_of k.dict p) (word_of k.dict q)) (is_test_link k.dict k.declared p q) h)
    by (inr pair) = absurd (both_ways (has_pair k.axioms p q) (no_pair_to_test k held.sound p q tested) pair)
