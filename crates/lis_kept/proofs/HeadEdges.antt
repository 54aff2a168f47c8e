-- One more edge of a taxonomy.
use Rattle.std.proofs.Common.{eq-eqb}
use Rattle.lis_kept.proofs.Common.{rules, ◌≡◌, ◌⊎◌, ℕ, zero, suc, ◌==◌, ◌&&◌, ◌||◌, true, false, not, Option, [], ◌↔◌, Result, Err, IsTrue, refl, ap, ap₂, ◌∙◌, subst, inl, inr, Ordering, Contains, ne_eqb, Chain, among_from_contains, EdgeFault, Present, Cycle, Absent, Taxonomy, no_links, has_edge, with_edge, without_edge, both_ways, any_from_among}
use Rattle.std.specs.Ordering.{nat_cmp, ordering_then, is_eq, eq_by_cmp}
use Rattle.std.specs.Cmp.{IsTotalOrder, nat_cmp_total, unsigned_tied}
use Rattle.std.proofs.Math.Bool.{or-false}
use Rattle.std.proofs.lemmas.Map.Lookups.{CmpEqualImpliesEq, exact_unsigned}
use Rattle.lis_graph.proofs.Pairs.{pairs_total, pairs_exact}
use Rattle.lis_taxonomy.specs.Taxonomy.{pair_cmp, Entails}
use Rattle.lis_kept.specs.Edges.{is_at, with_edge_to, without_edge_to}
use Rattle.std.specs.FinSet as set

pub pair_order : IsTotalOrder pair_cmp
pair_order = pairs_total nat_cmp nat_cmp nat_cmp_total nat_cmp_total exact_unsigned exact_unsigned

pub same_pairs : CmpEqualImpliesEq pair_cmp
same_pairs = pairs_exact nat_cmp nat_cmp nat_cmp_total nat_cmp_total exact_unsigned exact_unsigned

both_equal : (a b : Ordering) → is_eq (ordering_then a b) ≡ (is_eq a && is_eq b)
both_equal a b = search (rules)

same_edge : (x y n h : ℕ) → eq_by_cmp pair_cmp (x, y) (n, h) ≡ ((x == n) && (y == h))
same_edge x y n h = both_equal (nat_cmp x n) (nat_cmp y h) ∙ ap₂ (λ a b. a && b) (unsigned_tied x n) (unsigned_tied y h)

pub swapped : (x y : ℕ) → (x == y) ≡ (y == x)
swapped x y = search (rules, eq-eqb, ne_eqb)

pub has_edge-with_edge : (t : Taxonomy) (n h x y : ℕ) → has_edge (with_edge t n h) x y ≡ (((x == n) && (y == h)) || has_edge t x y)
has_edge-with_edge t n h x y = set.contains-insert pair_order t.edges (n, h) (x, y) ∙ ap (λ b. b || has_edge t x y) (same_edge x y n h)

pub edge_there : (t : Taxonomy) (x y : ℕ) → Contains (set.items t.edges) (x, y) → has_edge t x y ≡ true
edge_there t x y m =
    set.contains-items t.edges (x, y)
    ∙ any_from_among (eq_by_cmp pair_cmp (x, y)) (set.items t.edges) (x, y) (among_from_contains (set.items t.edges) (x, y) m)
    (same_edge x y x y ∙ ap₂ (λ a b. a && b) (eq-eqb x x refl) (eq-eqb y y refl))

chain_into : (t : Taxonomy) (n : ℕ) → ((x : ℕ) → has_edge t x n ≡ false) → (m x : ℕ) → Chain no_links (set.items t.edges) m x n → x ≡ n
chain_into t n none zero x e = e
chain_into t n none (suc m) x step = by (chain_into t n none m step.0 step.2) step.1
  where
    by : step.0 ≡ n → Contains (no_links x) step.0 ⊎ Contains (set.items t.edges) (x, step.0) → x ≡ n
    by last (inl own) = absurd (among_from_contains {K = ℕ} [] step.0 own)
    by last (inr edge) = absurd (both_ways (has_edge t x n) (none x) (subst (λ r. has_edge t x r ≡ true) last (edge_there t x step.0 edge)))

-- what no edge leads to, no other number entails
pub none_entails : (t : Taxonomy) (n : ℕ) → ((x : ℕ) → has_edge t x n ≡ false) → (h : ℕ) → Entails t h n → h ≡ n
none_entails t n none h chain = chain_into t n none chain.0 h chain.1

-- a new edge from such a number is not refused, if none leads from it
pub not_refused : {T : Type 0} (t : Taxonomy) (n h : ℕ) (fault : EdgeFault) (r : Result T EdgeFault) → r ≡ Err fault → ((r ≡ Err Present) ↔ IsTrue (has_edge t n h)) → ((r ≡ Err Cycle) ↔ Entails t h n) → (r ≡ Err Absent → ⊥)
    → ((x : ℕ) → has_edge t x n ≡ false) → ((x : ℕ) → has_edge t n x ≡ false) → (h ≡ n → ⊥) → ⊥
not_refused t n h Present r is present cycle absent to from apart = both_ways (has_edge t n h) (from h) (present.0 is)
not_refused t n h Cycle r is present cycle absent to from apart = apart (none_entails t n to h (cycle.0 is))
not_refused t n h Absent r is present cycle absent to from apart = absent is

-- ---- one fewer edge
pub has_edge-without_edge : (t : Taxonomy) (n h x y : ℕ) → has_edge (without_edge t n h) x y ≡ (not ((x == n) && (y == h)) && has_edge t x y)
has_edge-without_edge t n h x y = set.contains-remove pair_order t.edges (n, h) (x, y) ∙ ap (λ b. not b && has_edge t x y) (same_edge x y n h)

-- ---- the edge to a head
pub same_props_with : (t : Taxonomy) (n : ℕ) (o : Option ℕ) → (with_edge_to t n o).props ≡ t.props
same_props_with t n o = search (rules)

pub same_props_without : (t : Taxonomy) (n : ℕ) (o : Option ℕ) → (without_edge_to t n o).props ≡ t.props
same_props_without t n o = search (rules)

-- other numbers keep their edges
pub other_edges_with : (t : Taxonomy) (n : ℕ) (o : Option ℕ) (x y : ℕ) → (x ≡ n → ⊥) → has_edge (with_edge_to t n o) x y ≡ has_edge t x y
other_edges_with t n o x y differ = search (rules, has_edge-with_edge, ne_eqb)

pub other_edges_without : (t : Taxonomy) (n : ℕ) (o : Option ℕ) (x y : ℕ) → (x ≡ n → ⊥) → has_edge (without_edge_to t n o) x y ≡ has_edge t x y
other_edges_without t n o x y differ = search (rules, has_edge-without_edge, ne_eqb)

-- a number that had no edge has this one
pub first_edge : (t : Taxonomy) (n : ℕ) (o : Option ℕ) (y : ℕ) → has_edge t n y ≡ false → has_edge (with_edge_to t n o) n y ≡ is_at o y
first_edge t n o y none = search (rules, has_edge-with_edge, eq-eqb, or-false, swapped)

-- and one that had only this one has none without it
pub last_edge : (t : Taxonomy) (n : ℕ) (o : Option ℕ) (y : ℕ) → has_edge t n y ≡ is_at o y → has_edge (without_edge_to t n o) n y ≡ false
last_edge t n o y only = search (rules, has_edge-without_edge, eq-eqb, swapped)

pub not_absent : {T : Type 0} (t : Taxonomy) (n h : ℕ) (r : Result T EdgeFault) → ((r ≡ Err Absent) ↔ (has_edge t n h ≡ false)) → r ≡ Err Absent → has_edge t n h ≡ true → ⊥
not_absent t n h r absent only there = search (rules, both_ways)
