-- Where chains lead, if the right sides of axioms are plain: from a plain word on by axioms alone, to no valued word, and to a test from
-- stronger tests alone. So whether axioms make a cycle does not depend on which words are declared.
use Rattle.std.proofs.Common.{◌≡◌, ◌⊎◌, ℕ, zero, suc, Bool, true, false, List, refl, sym, subst, ◌∙◌, inl, inr}
use Rattle.std.proofs.lemmas.Bool.{both_ways}
use Rattle.lis_graph.specs.Graph.{Linked, Chain}
use Rattle.lis_graph.proofs.Members.{Among, among_from_contains, contains_from_among}
use Rattle.lis_words.specs.Words.{is_plain_word, is_valued, is_test, head_bytes}
use Rattle.lis_words.proofs.Tests.{test_not_plain}
use Rattle.lis_model.specs.State.{links, Acyclic}
use Rattle.lis_laws.proofs.Chains.{Pairs, OwnLink, own_link, IsWeakerIn, weaker_tests_are, weaker_joined, not_weaker_itself, head_not_valued, head_no_test}
use Rattle.lis_laws.proofs.Chains.OwnLink.{Head, Weaker}
use Rattle.lis_laws.proofs.Apart.{plain_not_valued, test_not_valued}

-- a plain word has no own links
pub plain_ends : (declared : List (List ℕ)) (p r : List ℕ) → is_plain_word p ≡ true → OwnLink declared p r → ⊥
plain_ends declared p r plain (Head valued is) = both_ways (is_valued p) (plain_not_valued p plain) valued
plain_ends declared p r plain (Weaker w) = both_ways (is_plain_word p) (test_not_plain p (weaker_tests_are declared p r w).0) plain

pub link_cases : (declared : List (List ℕ)) (axioms : Pairs) (p r : List ℕ) → Linked (links declared) axioms p r → OwnLink declared p r ⊎ Among axioms (p, r)
link_cases declared axioms p r (inl own) = inl (own_link declared p r (among_from_contains (links declared p) r own))
link_cases declared axioms p r (inr edge) = inr (among_from_contains axioms (p, r) edge)

-- the last link of a chain
pub chain_last : (declared : List (List ℕ)) (axioms : Pairs) (n : ℕ) (p q : List ℕ) → Chain (links declared) axioms (suc n) p q
    → (r : List ℕ) × Chain (links declared) axioms n p r × Linked (links declared) axioms r q
chain_last declared axioms zero p q c = (p, refl, subst (λ (k : List ℕ). Linked (links declared) axioms p k) c.2 c.1)
chain_last declared axioms (suc n) p q c =
    let rest = chain_last declared axioms n c.0 q c.2 in
    (rest.0, (c.0, c.1, rest.1), rest.2)

-- if no declared word is valued, and right sides are declared, declared words lead to declared words alone
pub declared_leads : (declared : List (List ℕ)) (axioms : Pairs) → ((w : List ℕ) → Among declared w → is_valued w ≡ false) → ((e : List ℕ × List ℕ) → Among axioms e → Among declared e.1)
    → (n : ℕ) (p q : List ℕ) → Among declared p → Chain (links declared) axioms n p q → Among declared q
declared_leads declared axioms none rights zero p q m c = subst (λ (k : List ℕ). Among declared k) c m
declared_leads declared axioms none rights (suc n) p q m c = declared_leads declared axioms none rights n c.0 q (by (link_cases declared axioms p c.0 c.1)) c.2
  where
    by : OwnLink declared p c.0 ⊎ Among axioms (p, c.0) → Among declared c.0
    by (inl (Head valued is)) = absurd (both_ways (is_valued p) (none p m) valued)
    by (inl (Weaker w)) = w.to
    by (inr edge) = rights (p, c.0) edge

module _ (right : List ℕ → Bool) (plain : (w : List ℕ) → right w ≡ true → is_plain_word w ≡ true)
    (axioms : Pairs) (rights : (e : List ℕ × List ℕ) → Among axioms e → right e.1 ≡ true) where
  -- from a right side only right sides are reached
  pub right_leads : (declared : List (List ℕ)) (n : ℕ) (p q : List ℕ) → right p ≡ true → Chain (links declared) axioms n p q → right q ≡ true
  right_leads declared zero p q h c = subst (λ (w : List ℕ). right w ≡ true) c h
  right_leads declared (suc n) p q h c = right_leads declared n c.0 q (by (link_cases declared axioms p c.0 c.1)) c.2
    where
      by : OwnLink declared p c.0 ⊎ Among axioms (p, c.0) → right c.0 ≡ true
      by (inl own) = absurd (plain_ends declared p c.0 (plain p h) own)
      by (inr edge) = rights (p, c.0) edge

  -- and that whatever words are declared
  right_chain : (some more : List (List ℕ)) (n : ℕ) (p q : List ℕ) → right p ≡ true → Chain (links some) axioms n p q → Chain (links more) axioms n p q
  right_chain some more zero p q h c = c
  right_chain some more (suc n) p q h c = by (link_cases some axioms p c.0 c.1) (λ further. right_chain some more n c.0 q further c.2)
    where
      by : OwnLink some p c.0 ⊎ Among axioms (p, c.0) → (right c.0 ≡ true → Chain (links more) axioms n c.0 q) → Chain (links more) axioms (suc n) p q
      by (inl own) rest = absurd (plain_ends some p c.0 (plain p h) own)
      by (inr edge) rest = (c.0, inr (contains_from_among axioms (p, c.0) edge), rest (rights (p, c.0) edge))

  no_link_to_valued : (declared : List (List ℕ)) (p q : List ℕ) → is_valued q ≡ true → OwnLink declared p q ⊎ Among axioms (p, q) → ⊥
  no_link_to_valued declared p q valued (inl (Head from is)) = both_ways (is_valued (head_bytes p)) (head_not_valued p) (subst (λ w. is_valued w ≡ true) (sym is) valued)
  no_link_to_valued declared p q valued (inl (Weaker w)) = both_ways (is_valued q) (test_not_valued q (weaker_tests_are declared p q w).1) valued
  no_link_to_valued declared p q valued (inr edge) = both_ways (is_valued q) (plain_not_valued q (plain q (rights (p, q) edge))) valued

  -- a chain to a valued word is empty
  pub valued_leads : (declared : List (List ℕ)) (n : ℕ) (p q : List ℕ) → is_valued q ≡ true → Chain (links declared) axioms n p q → p ≡ q
  valued_leads declared zero p q valued c = c
  valued_leads declared (suc n) p q valued c =
      let middle = valued_leads declared n c.0 q valued c.2 in
      absurd (no_link_to_valued declared p c.0 (subst (λ w. is_valued w ≡ true) (sym middle) valued) (link_cases declared axioms p c.0 c.1))

  -- a chain to a test is empty, or comes from a stronger one
  pub test_leads : (declared : List (List ℕ)) (n : ℕ) (p q : List ℕ) → is_test q ≡ true → Chain (links declared) axioms n p q → (p ≡ q) ⊎ IsWeakerIn declared p q
  test_leads declared zero p q test c = inl c
  test_leads declared (suc n) p q test c = by (link_cases declared axioms p c.0 c.1) (test_leads declared n c.0 q test c.2)
    where
      middle : (c.0 ≡ q) ⊎ IsWeakerIn declared c.0 q → is_test c.0 ≡ true
      middle (inl same) = subst (λ w. is_test w ≡ true) (sym same) test
      middle (inr w) = (weaker_tests_are declared c.0 q w).0

      on : IsWeakerIn declared p c.0 → (c.0 ≡ q) ⊎ IsWeakerIn declared c.0 q → IsWeakerIn declared p q
      on w (inl same) = subst (λ (k : List ℕ). IsWeakerIn declared p k) same w
      on w (inr v) = weaker_joined declared p c.0 q w v

      by : OwnLink declared p c.0 ⊎ Among axioms (p, c.0) → (c.0 ≡ q) ⊎ IsWeakerIn declared c.0 q → (p ≡ q) ⊎ IsWeakerIn declared p q
      by (inl (Head valued is)) rest = absurd (head_no_test p (subst (λ k. is_test k ≡ true) (sym is) (middle rest)))
      by (inl (Weaker w)) rest = inr (on w rest)
      by (inr edge) rest = absurd (both_ways (is_plain_word c.0) (test_not_plain c.0 (middle rest)) (plain c.0 (rights (p, c.0) edge)))

  pub acyclic_by : (some more : List (List ℕ)) → Acyclic some axioms → Acyclic more axioms
  acyclic_by some more none n p c = by (link_cases more axioms p c.0 c.1)
    where
      back : IsWeakerIn more p c.0 → (c.0 ≡ p) ⊎ IsWeakerIn more c.0 p → ⊥
      back w (inl same) = not_weaker_itself more p (subst (λ (k : List ℕ). IsWeakerIn more p k) same w)
      back w (inr v) = not_weaker_itself more p (weaker_joined more p c.0 p w v)

      by : OwnLink more p c.0 ⊎ Among axioms (p, c.0) → ⊥
      by (inl (Head valued is)) =
          let loop = valued_leads more n c.0 p valued c.2 in
          both_ways (is_valued (head_bytes p)) (head_not_valued p) (subst (λ w. is_valued w ≡ true) (sym (is ∙ loop)) valued)
      by (inl (Weaker w)) = back w (test_leads more n c.0 p (weaker_tests_are more p c.0 w).0 c.2)
      by (inr edge) = none n p (c.0, inr (contains_from_among axioms (p, c.0) edge), right_chain more some n c.0 p (rights (p, c.0) edge) c.2)
