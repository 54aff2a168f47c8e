-- Edges between tests make no cycle.
use Rattle.std.proofs.Common.{OnOk, OnErr, arith}
use Rattle.lis_words.specs.declared.test.Test.{Test}
use Rattle.lis_kept.proofs.Common.{rules, ◌≡◌, ◌⊎◌, ℕ, zero, suc, ◌+◌, ◌-◌, ◌≤◌, ◌==◌, ◌&&◌, ◌||◌, not, cond, Bool, true, false, Option, Some, None, is_some, List, ◌↔◌, Result, Ok, Err, IsTrue, refl, sym, ap, ap₂, ◌∙◌, subst, inl, inr, Contains, and_parts, or_cases, eqb-true, Chain, among_from_contains, Dict, IsDict, word_of, EdgeFault, Present, Cycle, Absent, Taxonomy, no_links, has_edge, with_edge, without_edge, are_weaker}
use Rattle.std.proofs.lemmas.Bool.{cases_Bool}
use Rattle.lis_taxonomy.specs.Taxonomy.{Entails, edge_count}
use Rattle.lis_laws.proofs.Chains.{weaker_trans, weaker_apart, tests_by}
use Rattle.lis_kept.specs.Edges.{is_at}
use Rattle.lis_kept.specs.declared.test_edges.Side.TheVariants.{Weaker, Stronger}
use Rattle.lis_kept.specs.TestEdges.{test_by, declared_test, is_test_link, is_next_test, TestsAreOrdered, IsNeighbour, AreInOrder, LinksPair, UnlinksPair, LinksNext}
use Rattle.lis_kept.proofs.HeadEdges.{pair_order, has_edge-with_edge, has_edge-without_edge, edge_there, swapped}
use Rattle.lis_kept.proofs.NextTests.{test_link, next_from_here}
use Rattle.std.specs.FinSet as set

-- ---- chains to tests
module _ (dict : Dict) (t : Taxonomy) (ordered : TestsAreOrdered dict t) where
  abbrev test : ℕ → Option Test
  test n = test_by (word_of dict n)

  -- a chain to a test is empty, or comes from a stronger one
  chain_to_test : (len x y : ℕ) → is_some (test y) ≡ true → Chain no_links (set.items t.edges) len x y → (x ≡ y) ⊎ (are_weaker (test y) (test x) ≡ true)
  chain_to_test zero x y tested c = inl c
  chain_to_test (suc len) x y tested c = by (chain_to_test len c.0 y tested c.2)
    where
      linked : Contains (no_links x) c.0 ⊎ Contains (set.items t.edges) (x, c.0) → has_edge t x c.0 ≡ true
      linked h1 = search (rules, among_from_contains, edge_there)

      by : (c.0 ≡ y) ⊎ (are_weaker (test y) (test c.0) ≡ true) → (x ≡ y) ⊎ (are_weaker (test y) (test x) ≡ true)
      by (inl same) = inr (ordered x y (subst (λ n. has_edge t x n ≡ true) same (linked c.1)) tested)
      by (inr weaker) = inr (weaker_trans (test y) (test c.0) (test x) weaker (ordered x c.0 (linked c.1) (tests_by (test y) (test c.0) weaker).1))

  -- a weaker test does not lead back
  pub no_way_back : (p q : ℕ) → are_weaker (test q) (test p) ≡ true → Entails t q p → ⊥
  no_way_back p q weaker chain = by (chain_to_test chain.0 q p (tests_by (test q) (test p) weaker).1 chain.1)
    where
      by : (q ≡ p) ⊎ (are_weaker (test p) (test q) ≡ true) → ⊥
      by (inl same) = weaker_apart (test p) (subst (λ n. are_weaker (test n) (test p) ≡ true) same weaker)
      by (inr back) = weaker_apart (test q) (weaker_trans (test q) (test p) (test q) weaker back)

-- ---- one more edge, and one fewer
both_swapped : (x y p q : ℕ) → ((p == x) && (q == y)) ≡ ((x == p) && (y == q))
both_swapped x y p q = ap₂ (λ a b. a && b) (swapped p x) (swapped q y)

-- the edge is there then, with those that were
pub pair_comes : (t u : Taxonomy) (x y : ℕ) → u ≡ with_edge t x y → LinksPair (Some x) (Some y) t u
pair_comes t u x y is = subst (LinksPair (Some x) (Some y) t) (sym is) (record {
  props = refl;
  edges = λ p q. has_edge-with_edge t x y p q ∙ ap (λ b. b || has_edge t p q) (both_swapped x y p q);
})

pair_was : (t : Taxonomy) (x y : ℕ) → has_edge t x y ≡ true → LinksPair (Some x) (Some y) t t
pair_was t x y there = record { props = refl; edges = λ p q. by p q (x == p) (y == q) refl refl }
  where
    by : (p q : ℕ) (a b : Bool) → (x == p) ≡ a → (y == q) ≡ b → has_edge t p q ≡ ((a && b) || has_edge t p q)
    by p q true true e f = ap₂ (has_edge t) (sym (eqb-true x p e)) (sym (eqb-true y q f)) ∙ there
    by p q true false e f = refl
    by p q false b e f = refl

-- a new edge between tests is added, or was there
pub pair_linked : {T : Type 0} (dict : Dict) (declared : List Bool) (t u : Taxonomy) (p q : ℕ) (r : Result T EdgeFault) → TestsAreOrdered dict t
    → ((r ≡ Err Present) ↔ IsTrue (has_edge t p q)) → ((r ≡ Err Cycle) ↔ Entails t q p) → (r ≡ Err Absent → ⊥) → OnOk r (u ≡ with_edge t p q) → OnErr r (u ≡ t)
    → is_test_link dict declared p q ≡ true → LinksPair (Some p) (Some q) t u
pair_linked dict declared t u p q (Ok done) ordered present cycle absent ok err link = pair_comes t u p q ok
pair_linked dict declared t u p q (Err Present) ordered present cycle absent ok err link = subst (LinksPair (Some p) (Some q) t) (sym err) (pair_was t p q (present.0 refl))
pair_linked dict declared t u p q (Err Cycle) ordered present cycle absent ok err link = absurd (no_way_back dict t ordered p q (test_link dict declared p q link).weaker (cycle.0 refl))
pair_linked dict declared t u p q (Err Absent) ordered present cycle absent ok err link = absurd (absent refl)

-- an edge is removed, or was not there
pub pair_unlinked : {T : Type 0} (t u : Taxonomy) (x y : ℕ) (r : Result T EdgeFault) → OnOk r (u ≡ without_edge t x y) → OnErr r (u ≡ t) → OnErr r (r ≡ Err Absent) → ((r ≡ Err Absent) ↔ (has_edge t x y ≡ false))
    → UnlinksPair (Some x) (Some y) t u
pair_unlinked t u x y (Ok done) gone same only absent = subst (UnlinksPair (Some x) (Some y) t) (sym gone) (record {
  props = refl;
  edges = λ p q. has_edge-without_edge t x y p q ∙ ap (λ b. not b && has_edge t p q) (both_swapped x y p q);
})
pair_unlinked t u x y (Err fault) gone same only absent =
    subst (UnlinksPair (Some x) (Some y) t) (sym same) (record { props = refl; edges = λ p q. by p q (x == p) (y == q) refl refl })
  where
    by : (p q : ℕ) (a b : Bool) → (x == p) ≡ a → (y == q) ≡ b → has_edge t p q ≡ (not (a && b) && has_edge t p q)
    by p q true true e f = ap₂ (has_edge t) (sym (eqb-true x p e)) (sym (eqb-true y q f)) ∙ absent.0 only
    by p q true false e f = refl
    by p q false b e f = refl

-- at most one more edge
pub one_more : {T : Type 0} (t u : Taxonomy) (p q : ℕ) (r : Result T EdgeFault) → OnOk r (u ≡ with_edge t p q) → OnErr r (u ≡ t) → edge_count u ≤ edge_count t + 1
one_more t u p q (Ok done) ok err = by (cases_Bool (has_edge t p q))
  where
    long : edge_count u ≡ cond (has_edge t p q) (edge_count t) (edge_count t + 1)
    long = ap edge_count ok ∙ set.len-insert pair_order t.edges (p, q)

    by : (has_edge t p q ≡ true) ⊎ (has_edge t p q ≡ false) → edge_count u ≤ edge_count t + 1
    by (inl there) = omega (arith, long ∙ ap (λ b. cond b (edge_count t) (edge_count t + 1)) there)
    by (inr none) = omega (arith, long ∙ ap (λ b. cond b (edge_count t) (edge_count t + 1)) none)
one_more t u p q (Err fault) ok err = omega (arith, ap edge_count err)

-- no more edges
pub no_more : {T : Type 0} (t u : Taxonomy) (p q : ℕ) (r : Result T EdgeFault) → OnOk r (u ≡ without_edge t p q) → OnErr r (u ≡ t) → edge_count u ≤ edge_count t
no_more t u p q (Ok done) ok err = by (cases_Bool (has_edge t p q))
  where
    long : edge_count u ≡ cond (has_edge t p q) (edge_count t - 1) (edge_count t)
    long = ap edge_count ok ∙ set.len-remove pair_order t.edges (p, q)

    by : (has_edge t p q ≡ true) ⊎ (has_edge t p q ≡ false) → edge_count u ≤ edge_count t
    by (inl there) = omega (arith, long ∙ ap (λ b. cond b (edge_count t - 1) (edge_count t)) there)
    by (inr none) = omega (arith, long ∙ ap (λ b. cond b (edge_count t - 1) (edge_count t)) none)
no_more t u p q (Err fault) ok err = omega (arith, ap edge_count err)

-- ---- edges to tests still lead from stronger tests alone
pub linked_ordered : (dict : Dict) (declared : List Bool) (from to : Option ℕ) (t u : Taxonomy) → LinksPair from to t u → AreInOrder dict declared from to → TestsAreOrdered dict t → TestsAreOrdered dict u
linked_ordered dict declared from to t u links order ordered p q edge tested = by (or_cases (is_at from p && is_at to q) (has_edge t p q) (sym (links.edges p q) ∙ edge))
  where
    new : (f o : Option ℕ) → AreInOrder dict declared f o → is_at f p ≡ true → is_at o q ≡ true → is_test_link dict declared p q ≡ true
    new None o order at_p at_q = absurd cc
    new (Some x) None order at_p at_q = absurd cc
    new (Some x) (Some y) order at_p at_q = ap₂ (is_test_link dict declared) (sym (eqb-true x p at_p)) (sym (eqb-true y q at_q)) ∙ order

    by : ((is_at from p && is_at to q) ≡ true) ⊎ (has_edge t p q ≡ true) → are_weaker (test_by (word_of dict q)) (test_by (word_of dict p)) ≡ true
    by (inl both) = let at = and_parts (is_at from p) (is_at to q) both in (test_link dict declared p q (new from to order at.0 at.1)).weaker
    by (inr was) = ordered p q was tested

pub unlinked_ordered : (dict : Dict) (from to : Option ℕ) (t u : Taxonomy) → UnlinksPair from to t u → TestsAreOrdered dict t → TestsAreOrdered dict u
unlinked_ordered dict from to t u links ordered p q edge tested = ordered p q (and_parts (not (is_at from p && is_at to q)) (has_edge t p q) (sym (links.edges p q) ∙ edge)).1 tested

-- ---- a number and its neighbours are in order
module _ (dict : Dict) (declared : List Bool) (n : ℕ) where
  pub order_below : (o : Option ℕ) → IsNeighbour Weaker dict declared (declared_test dict declared n) o → AreInOrder dict declared (Some n) o
  order_below None near = tt
  order_below (Some m) near = near.past

  pub order_around : (o r : Option ℕ) → IsNeighbour Stronger dict declared (declared_test dict declared n) o → IsNeighbour Weaker dict declared (declared_test dict declared n) r
      → AreInOrder dict declared o r
  order_around None r high low = tt
  order_around (Some m) None high low = tt
  order_around (Some m) (Some k) high low = weaker_trans (declared_test dict declared k) (declared_test dict declared n) (declared_test dict declared m) low.past high.past

  -- the edge to the next weaker test is the one of the number
  pub links_next : IsDict dict → (o : Option ℕ) (t u : Taxonomy) → IsNeighbour Weaker dict declared (declared_test dict declared n) o → LinksPair (Some n) o t u → LinksNext dict declared n t u
  links_next kept o t u near links = record {
    props = links.props;
    edges = λ p q. links.edges p q ∙ ap (λ b. b || has_edge t p q) (by p q (n == p) refl ∙ ap (λ b. b && is_next_test dict declared p q) (swapped n p));
  }
    where
      by : (p q : ℕ) (b : Bool) → (n == p) ≡ b → (b && is_at o q) ≡ (b && is_next_test dict declared p q)
      by p q true e = sym (subst (λ m. is_next_test dict declared m q ≡ is_at o q) (eqb-true n p e) (next_from_here dict kept declared n o near q))
      by p q false e = refl
