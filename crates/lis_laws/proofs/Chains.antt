-- The laws on chains of links, at words: the own links of words are an order, what a word entails, and axioms without a cycle.
use Rattle.std.proofs.Common.{◌≡◌, ◌⊎◌, ℕ, Bool, true, false, not, ◌&&◌, cond, Option, Some, None, is_some, List, [], ◌∷◌, length, filter, Decides, refl, sym, ap, subst, ◌∙◌, nat_lt, inl, inr, arith}
use Rattle.std.proofs.lemmas.Bool.{both_ways, or_right, lt-ltb, ltb-true}
use Rattle.std.specs.List.{list_any, list_all}
use Rattle.std.specs.List.Sorted.{IsStrictlySortedBy}
use Rattle.std.proofs.lemmas.List.Folds.{list_any-append}
use Rattle.lis_graph.specs.Graph.{IsOrdered}
use Rattle.lis_graph.proofs.Graph as graph
use Rattle.lis_graph.proofs.Graph.{IsLinkedWithin}
use Rattle.lis_graph.proofs.Members.{Among, among_filter, filter_among, among_append, among_left, among_right, among_from_contains, contains_from_among}
use Rattle.lis_words.specs.declared.test.Test.{Test}
use Rattle.lis_words.specs.Words.{word_cmp, same_word, has_word, has_stem, stem, is_plain_byte, is_valued, head_bytes, is_test, test_of}
use Rattle.lis_words.proofs.Head.{value_joined}
use Rattle.lis_words.proofs.Tests.{test_no_colon, valued_not_test}
use Rattle.lis_model.specs.Tests.{are_weaker, weaker_tests}
use Rattle.lis_model.specs.State.{heads, links, Entails, Acyclic, up, is_acyclic}
use Rattle.lis_laws.proofs.Members.{same_word_decides, word_exact, word_order, among_from_has_word, has_word_from_among}
use Rattle.lis_words.specs.Bytes.{is_colon}

-- ---- heads
pub head_not_valued : (word : List ℕ) → is_valued (head_bytes word) ≡ false
head_not_valued word = ap (λ (v : List ℕ). has_stem (head_bytes word) && nat_lt 0 (length v) && list_all is_plain_byte v) (value_joined word) ∙ none (has_stem (head_bytes word))
  where
    none : (b : Bool) → (b && false && true) ≡ false
    none true = refl
    none false = refl

pub head_no_test : (word : List ℕ) → is_test (head_bytes word) ≡ true → ⊥
head_no_test word test =
    let colon : list_any is_colon (head_bytes word) ≡ true = list_any-append is_colon (stem word) (58 ∷ []) ∙ or_right (list_any is_colon (stem word)) true refl in
    both_ways (list_any is_colon (head_bytes word)) (test_no_colon (head_bytes word) test) colon

pub among_heads : (p q : List ℕ) → Among (heads p) q → (is_valued p ≡ true) × (head_bytes p ≡ q)
among_heads p q h = by (is_valued p) refl h
  where
    by : (t : Bool) → is_valued p ≡ t → Among (cond t (head_bytes p ∷ []) []) q → (is_valued p ≡ true) × (head_bytes p ≡ q)
    by true e (inl same) = (e, same)
    by true e (inr none) = absurd none
    by false e none = absurd none

pub heads_of_valued : (word : List ℕ) → is_valued word ≡ true → Among (heads word) (head_bytes word)
heads_of_valued word valued = subst (λ (t : Bool). Among (cond t (head_bytes word ∷ []) []) (head_bytes word)) (sym valued) (inl refl)

-- ---- weaker tests
weaker_trans_by : (a b c : Bool) (k m n : ℕ) → cond a (b && nat_lt k m) (not b && nat_lt m k) ≡ true → cond b (c && nat_lt m n) (not c && nat_lt n m) ≡ true
    → cond a (c && nat_lt k n) (not c && nat_lt n k) ≡ true
weaker_trans_by true true true k m n h g = lt-ltb k n (omega (arith, ltb-true k m h, ltb-true m n g))
weaker_trans_by true true false k m n h g = absurd cc
weaker_trans_by true false c k m n h g = absurd cc
weaker_trans_by false true c k m n h g = absurd cc
weaker_trans_by false false true k m n h g = absurd cc
weaker_trans_by false false false k m n h g = lt-ltb n k (omega (arith, ltb-true m k h, ltb-true n m g))

pub weaker_trans : (r q p : Option Test) → are_weaker r q ≡ true → are_weaker q p ≡ true → are_weaker r p ≡ true
weaker_trans None q p h g = absurd cc
weaker_trans (Some r) None p h g = absurd cc
weaker_trans (Some r) (Some q) None h g = absurd cc
weaker_trans (Some r) (Some q) (Some p) h g = weaker_trans_by r.at_least q.at_least p.at_least r.bytes q.bytes p.bytes h g

pub weaker_apart : (p : Option Test) → are_weaker p p ≡ true → ⊥
weaker_apart None h = absurd cc
weaker_apart (Some p) h = by p.at_least h
  where
    by : (a : Bool) → cond a (a && nat_lt p.bytes p.bytes) (not a && nat_lt p.bytes p.bytes) ≡ true → ⊥
    by true e = omega (arith, ltb-true p.bytes p.bytes e)
    by false e = omega (arith, ltb-true p.bytes p.bytes e)

-- the two words are tests
pub tests_by : (q p : Option Test) → are_weaker q p ≡ true → (is_some q ≡ true) × (is_some p ≡ true)
tests_by None p h = absurd cc
tests_by (Some q) None h = absurd cc
tests_by (Some q) (Some p) h = (refl, refl)

pub record IsWeakerIn (declared : List (List ℕ)) (p q : List ℕ) : Type 0 where
  pub from : Among declared p
  pub to : Among declared q
  pub weaker : are_weaker (test_of q) (test_of p) ≡ true

pub weaker_tests_are : (declared : List (List ℕ)) (p q : List ℕ) → IsWeakerIn declared p q → (is_test p ≡ true) × (is_test q ≡ true)
weaker_tests_are declared p q w = let both = tests_by (test_of q) (test_of p) w.weaker in (both.1, both.0)

pub among_weaker : (declared : List (List ℕ)) (p q : List ℕ) → Among (weaker_tests declared p) q → IsWeakerIn declared p q
among_weaker declared p q h = by (has_word declared p) refl h
  where
    by : (b : Bool) → has_word declared p ≡ b → Among (cond b (filter (λ w. are_weaker (test_of w) (test_of p)) declared) []) q → IsWeakerIn declared p q
    by true e m =
        let found = among_filter (λ w. are_weaker (test_of w) (test_of p)) declared q m in
        record { from = among_from_has_word declared p e; to = found.0; weaker = found.1 }
    by false e m = absurd m

pub weaker_among : (declared : List (List ℕ)) (p q : List ℕ) → IsWeakerIn declared p q → Among (weaker_tests declared p) q
weaker_among declared p q w = by (has_word declared p) (has_word_from_among declared p w.from)
  where
    by : (b : Bool) → b ≡ true → Among (cond b (filter (λ v. are_weaker (test_of v) (test_of p)) declared) []) q
    by true e = filter_among (λ v. are_weaker (test_of v) (test_of p)) declared q w.to w.weaker
    by false e = absurd cc

pub weaker_joined : (declared : List (List ℕ)) (p q r : List ℕ) → IsWeakerIn declared p q → IsWeakerIn declared q r → IsWeakerIn declared p r
weaker_joined declared p q r w v = record { from = w.from; to = v.to; weaker = weaker_trans (test_of r) (test_of q) (test_of p) v.weaker w.weaker }

pub not_weaker_itself : (declared : List (List ℕ)) (p : List ℕ) → IsWeakerIn declared p p → ⊥
not_weaker_itself declared p w = weaker_apart (test_of p) w.weaker

-- ---- the own links of a word
pub data OwnLink (declared : List (List ℕ)) (p q : List ℕ) : Type 0 where
  Head : is_valued p ≡ true → head_bytes p ≡ q → OwnLink declared p q
  Weaker : IsWeakerIn declared p q → OwnLink declared p q

pub own_link : (declared : List (List ℕ)) (p q : List ℕ) → Among (links declared p) q → OwnLink declared p q
own_link declared p q h = by (among_append (heads p) (weaker_tests declared p) q h)
  where
    head : (is_valued p ≡ true) × (head_bytes p ≡ q) → OwnLink declared p q
    head found = Head found.0 found.1

    by : Among (heads p) q ⊎ Among (weaker_tests declared p) q → OwnLink declared p q
    by (inl m) = head (among_heads p q m)
    by (inr m) = Weaker (among_weaker declared p q m)

pub links_head : (declared : List (List ℕ)) (p : List ℕ) → is_valued p ≡ true → Among (links declared p) (head_bytes p)
links_head declared p valued = among_left (heads p) (weaker_tests declared p) (head_bytes p) (heads_of_valued p valued)

pub links_weaker : (declared : List (List ℕ)) (p q : List ℕ) → IsWeakerIn declared p q → Among (links declared p) q
links_weaker declared p q w = among_right (heads p) (weaker_tests declared p) q (weaker_among declared p q w)

links_joined : (declared : List (List ℕ)) (p q r : List ℕ) → OwnLink declared p q → OwnLink declared q r → Among (links declared p) r
links_joined declared p q r (Head valued is) (Head again to) =
    absurd (both_ways (is_valued (head_bytes p)) (head_not_valued p) (subst (λ w. is_valued w ≡ true) (sym is) again))
links_joined declared p q r (Head valued is) (Weaker w) = absurd (head_no_test p (subst (λ k. is_test k ≡ true) (sym is) (weaker_tests_are declared q r w).0))
links_joined declared p q r (Weaker w) (Head valued to) = absurd (both_ways (is_test q) (valued_not_test q valued) (weaker_tests_are declared p q w).1)
links_joined declared p q r (Weaker w) (Weaker v) = links_weaker declared p r (weaker_joined declared p q r w v)

links_apart : (declared : List (List ℕ)) (p : List ℕ) → OwnLink declared p p → ⊥
links_apart declared p (Head valued is) = both_ways (is_valued (head_bytes p)) (head_not_valued p) (subst (λ w. is_valued w ≡ true) (sym is) valued)
links_apart declared p (Weaker w) = not_weaker_itself declared p w

pub links_ordered : (declared : List (List ℕ)) → IsOrdered (links declared)
links_ordered declared = record {
  joined = λ p q r first next. contains_from_among (links declared p) r
      (links_joined declared p q r (own_link declared p q (among_from_contains (links declared p) q first)) (own_link declared q r (among_from_contains (links declared q) r next)));
  apart = λ p loop. links_apart declared p (own_link declared p p (among_from_contains (links declared p) p loop));
}

-- ---- what a word entails
abbrev pub Pairs : Type 0
Pairs = List (List ℕ × List ℕ)

pub up_self : (declared : List (List ℕ)) (axioms : Pairs) (p : List ℕ) → Among (up declared axioms p) p
up_self declared = graph.up_self same_word word_cmp (links declared) same_word_decides word_exact (links_ordered declared)

pub up_own : (declared : List (List ℕ)) (axioms : Pairs) (p q : List ℕ) → Among (links declared p) q → Among (up declared axioms p) q
up_own declared = graph.up_own same_word word_cmp (links declared) same_word_decides word_exact (links_ordered declared)

pub up_edge : (declared : List (List ℕ)) (axioms : Pairs) (p q : List ℕ) → Among axioms (p, q) → Among (up declared axioms p) q
up_edge declared = graph.up_edge same_word word_cmp (links declared) same_word_decides word_exact (links_ordered declared)

pub up_trans : (declared : List (List ℕ)) (axioms : Pairs) (p q r : List ℕ) → Among (up declared axioms p) q → Among (up declared axioms q) r → Among (up declared axioms p) r
up_trans declared = graph.up_trans same_word word_cmp (links declared) same_word_decides word_exact (links_ordered declared)

pub up_cons : (declared : List (List ℕ)) (pair : List ℕ × List ℕ) (axioms : Pairs) (p q : List ℕ) → Among (up declared (pair ∷ axioms) p) q
    → Among (up declared axioms p) q ⊎ (Among (up declared axioms p) pair.0 × Among (up declared axioms pair.1) q)
up_cons declared = graph.up_cons same_word word_cmp (links declared) same_word_decides word_exact (links_ordered declared)

pub up_old : (declared : List (List ℕ)) (pair : List ℕ × List ℕ) (axioms : Pairs) (p q : List ℕ) → Among (up declared axioms p) q → Among (up declared (pair ∷ axioms) p) q
up_old declared = graph.up_old same_word word_cmp (links declared) same_word_decides word_exact (links_ordered declared)

pub up_through : (declared : List (List ℕ)) (pair : List ℕ × List ℕ) (axioms : Pairs) (p q : List ℕ)
    → Among (up declared axioms p) pair.0 → Among (up declared axioms pair.1) q → Among (up declared (pair ∷ axioms) p) q
up_through declared = graph.up_through same_word word_cmp (links declared) same_word_decides word_exact (links_ordered declared)

pub up_decides : (declared : List (List ℕ)) (axioms : Pairs) (p q : List ℕ) → Decides (has_word (up declared axioms p) q) (Entails declared axioms p q)
up_decides declared = graph.up_decides same_word word_cmp (links declared) same_word_decides word_exact (links_ordered declared)

pub entails_from_up : (declared : List (List ℕ)) (axioms : Pairs) (p q : List ℕ) → Among (up declared axioms p) q → Entails declared axioms p q
entails_from_up declared = graph.entails_from_up same_word word_cmp (links declared) same_word_decides word_exact (links_ordered declared)

pub up_from_entails : (declared : List (List ℕ)) (axioms : Pairs) (p q : List ℕ) → Entails declared axioms p q → Among (up declared axioms p) q
up_from_entails declared axioms p q e = graph.up_from_chain same_word word_cmp (links declared) same_word_decides word_exact (links_ordered declared) axioms e.0 p q e.1

pub sorted_up : (declared : List (List ℕ)) (axioms : Pairs) (p : List ℕ) → IsStrictlySortedBy word_cmp (up declared axioms p)
sorted_up declared = graph.sorted_up same_word word_cmp (links declared) same_word_decides word_exact (links_ordered declared) word_order

-- the order of axioms does not matter
pub up_same : (declared : List (List ℕ)) (axioms more : Pairs) → ((e : List ℕ × List ℕ) → Among axioms e → Among more e) → ((e : List ℕ × List ℕ) → Among more e → Among axioms e)
    → (p : List ℕ) → up declared axioms p ≡ up declared more p
up_same declared = graph.up_same same_word word_cmp (links declared) same_word_decides word_exact (links_ordered declared) word_order

-- ---- chains
pub entails_within : (declared : List (List ℕ)) (axioms more : Pairs) → ((e : List ℕ × List ℕ) → Among axioms e → Among more e) → (p q : List ℕ) → Entails declared axioms p q → Entails declared more p q
entails_within declared = graph.entails_within (links declared)

pub entails_apart : (declared : List (List ℕ)) (pair : List ℕ × List ℕ) (axioms : Pairs) (p q : List ℕ) → Entails declared (pair ∷ axioms) p q
    → Entails declared axioms p q ⊎ (Entails declared axioms p pair.0 × Entails declared axioms pair.1 q)
entails_apart declared = graph.entails_apart same_word word_cmp (links declared) same_word_decides word_exact (links_ordered declared)

pub entails_through : (declared : List (List ℕ)) (pair : List ℕ × List ℕ) (axioms : Pairs) (p q : List ℕ) → Entails declared axioms p pair.0 → Entails declared axioms pair.1 q → Entails declared (pair ∷ axioms) p q
entails_through declared = graph.entails_through same_word word_cmp (links declared) same_word_decides word_exact (links_ordered declared)

-- ---- axioms without a cycle
pub acyclic_decides : (declared : List (List ℕ)) (axioms : Pairs) → Decides (is_acyclic declared axioms) (Acyclic declared axioms)
acyclic_decides declared = graph.acyclic_decides same_word word_cmp (links declared) same_word_decides word_exact (links_ordered declared)

pub no_ties : (declared : List (List ℕ)) (axioms : Pairs) → Acyclic declared axioms → (p q : List ℕ) → Entails declared axioms p q → Entails declared axioms q p → p ≡ q
no_ties declared = graph.no_ties same_word word_cmp (links declared) same_word_decides word_exact (links_ordered declared)

pub acyclic_within : (declared : List (List ℕ)) (axioms more : Pairs) → ((e : List ℕ × List ℕ) → Among axioms e → Among more e) → Acyclic declared more → Acyclic declared axioms
acyclic_within declared = graph.acyclic_within (links declared)

pub acyclic_cons : (declared : List (List ℕ)) (pair : List ℕ × List ℕ) (axioms : Pairs) → Acyclic declared axioms → (Entails declared axioms pair.1 pair.0 → ⊥) → Acyclic declared (pair ∷ axioms)
acyclic_cons declared = graph.acyclic_cons same_word word_cmp (links declared) same_word_decides word_exact (links_ordered declared)

-- ---- more declared words, and more axioms
links_within : (some more : List (List ℕ)) → ((w : List ℕ) → Among some w → Among more w) → (p q : List ℕ) → OwnLink some p q → Among (links more p) q
links_within some more within p q (Head valued is) = subst (λ (k : List ℕ). Among (links more p) k) is (links_head more p valued)
links_within some more within p q (Weaker w) = links_weaker more p q (record { from = within p w.from; to = within q w.to; weaker = w.weaker })

pub linked_within : (some more : List (List ℕ)) (axioms others : Pairs) → ((w : List ℕ) → Among some w → Among more w) → ((e : List ℕ × List ℕ) → Among axioms e → Among others e)
    → IsLinkedWithin (links some) (links more) axioms others
linked_within some more axioms others words pairs p r (inl own) =
    inl (contains_from_among (links more p) r (links_within some more words p r (own_link some p r (among_from_contains (links some p) r own))))
linked_within some more axioms others words pairs p r (inr edge) = inr (contains_from_among others (p, r) (pairs (p, r) (among_from_contains axioms (p, r) edge)))

pub up_wider : (some more : List (List ℕ)) (axioms others : Pairs) → ((w : List ℕ) → Among some w → Among more w) → ((e : List ℕ × List ℕ) → Among axioms e → Among others e)
    → (p q : List ℕ) → Among (up some axioms p) q → Among (up more others p) q
up_wider some more axioms others words pairs =
    graph.up_wider same_word word_cmp same_word_decides word_exact (links some) (links more) (links_ordered some) (links_ordered more) axioms others
    (linked_within some more axioms others words pairs)
