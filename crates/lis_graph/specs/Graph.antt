-- Chains of links, over any points: what a point entails, and edges without a cycle.
use Rattle.std.specs.Prelude.{◌≡◌, ◌⊎◌, ℕ, Bool, true, not, List, [], ◌∷◌, ◌&&◌, if◌then◌else◌, zero, suc}
use Rattle.std.specs.declared.cmp.Ordering.{Ordering}
use Rattle.std.specs.BTreeSet.{insert_key}
use Rattle.std.specs.List.{list_any, list_all, fold, Contains}
use Rattle.std.specs.Ordering.{is_lt}

-- one link leads from p to r: one of the own links of p, or an edge
abbrev pub Linked : {K : Type 0} → (K → List K) → List (K × K) → K → K → Type 0
Linked own edges p r = Contains (own p) r ⊎ Contains edges (p, r)

-- a chain of n links leads from p to q
abbrev pub Chain : {K : Type 0} → (K → List K) → List (K × K) → ℕ → K → K → Type 0
Chain own edges zero p q = p ≡ q
Chain {K} own edges (suc n) p q = (r : K) × Linked own edges p r × Chain own edges n r q

-- some chain leads from p to q; it may be empty
abbrev pub Entails : {K : Type 0} → (K → List K) → List (K × K) → K → K → Type 0
Entails own edges p q = (n : ℕ) × Chain own edges n p q

-- no chain of at least one link leads from a point to itself
abbrev pub Acyclic : {K : Type 0} → (K → List K) → List (K × K) → Type 0
Acyclic {K} own edges = (n : ℕ) (p : K) → Chain own edges (suc n) p p → ⊥

-- the own links of points are an order: two in a row are one, and none leads from a point to itself
pub record IsOrdered {K : Type 0} (own : K → List K) : Type 0 where
  pub joined : (p q r : K) → Contains (own p) q → Contains (own q) r → Contains (own p) r
  pub apart : (p : K) → Contains (own p) p → ⊥

-- whether x is one of the points, by a test of equality
abbrev pub has : {K : Type 0} → (K → K → Bool) → List K → K → Bool
has eq xs x = list_any (λ y. eq y x) xs

-- the sorted points, with more of them
abbrev pub with_more : {K : Type 0} → (K → K → Ordering) → List K → List K → List K
with_more cmp xs more = fold (insert_key cmp) xs more

-- What a point entails, itself included. For each edge whose left side it entails, it entails all that the right side does.
abbrev pub up : {K : Type 0} → (K → K → Bool) → (K → K → Ordering) → (K → List K) → List (K × K) → K → List K
up eq cmp own [] p = with_more cmp [] (p ∷ own p)
up eq cmp own (edge ∷ edges) p =
    let xs = up eq cmp own edges p in if has eq xs edge.0 then with_more cmp xs (up eq cmp own edges edge.1) else xs

-- no edge leads back to its own left side by the edges after it
abbrev pub is_acyclic : {K : Type 0} → (K → K → Bool) → (K → K → Ordering) → (K → List K) → List (K × K) → Bool
is_acyclic eq cmp own [] = true
is_acyclic eq cmp own (edge ∷ edges) = not (has eq (up eq cmp own edges edge.1) edge.0) && is_acyclic eq cmp own edges

-- each element is below those after it
abbrev pub is_rising : {K : Type 0} → (K → K → Ordering) → List K → Bool
is_rising cmp [] = true
is_rising cmp (x ∷ xs) = list_all (λ y. is_lt (cmp x y)) xs && is_rising cmp xs
