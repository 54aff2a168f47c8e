-- Laws on chains of links. What a point entails is what chains lead to, edges without a cycle make no ties, and the order of edges does not
-- matter.
use Rattle.std.proofs.Common.{◌≡◌, ◌⊎◌, ℕ, zero, suc, ◌+◌, Bool, true, false, not, ◌&&◌, cond, List, [], ◌∷◌, Decides, refl, sym, ap, subst, ◌∙◌, inl, inr, arith}
use Rattle.std.specs.declared.cmp.Ordering.{Ordering}
use Rattle.std.specs.Cmp.{IsTotalOrder}
use Rattle.std.specs.List.Sorted.{IsStrictlySortedBy}
use Rattle.std.proofs.lemmas.Map.Lookups.{CmpEqualImpliesEq}
use Rattle.lis_graph.specs.Graph.{Linked, Chain, Entails, Acyclic, IsOrdered, has, with_more, up, is_acyclic}
use Rattle.lis_graph.proofs.Members.{Among, among_from_contains, contains_from_among, among_with_more, with_more_old, with_more_new, among_from_has, has_from_among}
use Rattle.lis_graph.proofs.Sets.{sorted_nil, sorted_with_more, same_sets}

-- ---- chains
module _ {K : Type 0} (own : K → List K) where
  pub chain_append : (edges : List (K × K)) (n m : ℕ) (p q r : K) → Chain own edges n p q → Chain own edges m q r → Chain own edges (n + m) p r
  chain_append edges zero m p q r first rest = let len : 0 + m ≡ m = omega arith in rw len (subst (λ k. Chain own edges m k r) (sym first) rest)
  chain_append edges (suc n) m p q r first rest =
      let len : suc n + m ≡ suc (n + m) = omega arith in
      rw len (first.0, first.1, chain_append edges n m first.0 q r first.2 rest)

  link_within : (edges more : List (K × K)) → ((e : K × K) → Among edges e → Among more e) → (p r : K) → Linked own edges p r → Linked own more p r
  link_within edges more within p r (inl given) = inl given
  link_within edges more within p r (inr edge) = inr (contains_from_among more (p, r) (within (p, r) (among_from_contains edges (p, r) edge)))

  -- a chain by some edges is one by more edges
  pub chain_within : (edges more : List (K × K)) → ((e : K × K) → Among edges e → Among more e) → (n : ℕ) (p q : K) → Chain own edges n p q → Chain own more n p q
  chain_within edges more within zero p q c = c
  chain_within edges more within (suc n) p q c = (c.0, link_within edges more within p c.0 c.1, chain_within edges more within n c.0 q c.2)

  pub entails_within : (edges more : List (K × K)) → ((e : K × K) → Among edges e → Among more e) → (p q : K) → Entails own edges p q → Entails own more p q
  entails_within edges more within p q e = (e.0, chain_within edges more within e.0 p q e.1)

  -- fewer edges have no cycle if more have none
  pub acyclic_within : (edges more : List (K × K)) → ((e : K × K) → Among edges e → Among more e) → Acyclic own more → Acyclic own edges
  acyclic_within edges more within none n p c = none n p (chain_within edges more within (suc n) p p c)

-- ---- two ways to link: each link of the first is one of the second
abbrev pub IsLinkedWithin : {K : Type 0} → (K → List K) → (K → List K) → List (K × K) → List (K × K) → Type 0
IsLinkedWithin {K} own wide edges more = (p r : K) → Linked own edges p r → Linked wide more p r

module _ {K : Type 0} (own wide : K → List K) (edges more : List (K × K)) (within : IsLinkedWithin own wide edges more) where
  pub chain_wider : (n : ℕ) (p q : K) → Chain own edges n p q → Chain wide more n p q
  chain_wider zero p q c = c
  chain_wider (suc n) p q c = (c.0, within p c.0 c.1, chain_wider n c.0 q c.2)

  pub entails_wider : (p q : K) → Entails own edges p q → Entails wide more p q
  entails_wider p q e = (e.0, chain_wider e.0 p q e.1)

module _ {K : Type 0} (eq : K → K → Bool) (cmp : K → K → Ordering) (own : K → List K)
    (decides : (x y : K) → Decides (eq x y) (x ≡ y)) (exact : CmpEqualImpliesEq cmp)
    (ordered : IsOrdered own) where
  own_joined : (p q r : K) → Among (own p) q → Among (own q) r → Among (own p) r
  own_joined p q r first next = among_from_contains (own p) r (ordered.joined p q r (contains_from_among (own p) q first) (contains_from_among (own q) r next))

  own_apart : (p : K) → Among (own p) p → ⊥
  own_apart p loop = ordered.apart p (contains_from_among (own p) p loop)

  -- ---- one more edge
  pub up_cons : (edge : K × K) (edges : List (K × K)) (p q : K) → Among (up eq cmp own (edge ∷ edges) p) q
      → Among (up eq cmp own edges p) q ⊎ (Among (up eq cmp own edges p) edge.0 × Among (up eq cmp own edges edge.1) q)
  up_cons edge edges p q h = by (has eq (up eq cmp own edges p) edge.0) refl h
    where
      through : Among (up eq cmp own edges p) edge.0 → Among (up eq cmp own edges p) q ⊎ Among (up eq cmp own edges edge.1) q
          → Among (up eq cmp own edges p) q ⊎ (Among (up eq cmp own edges p) edge.0 × Among (up eq cmp own edges edge.1) q)
      through left (inl old) = inl old
      through left (inr new) = inr (left, new)

      by : (b : Bool) → has eq (up eq cmp own edges p) edge.0 ≡ b → Among (cond b (with_more cmp (up eq cmp own edges p) (up eq cmp own edges edge.1)) (up eq cmp own edges p)) q
          → Among (up eq cmp own edges p) q ⊎ (Among (up eq cmp own edges p) edge.0 × Among (up eq cmp own edges edge.1) q)
      by true e m = through (among_from_has eq decides (up eq cmp own edges p) edge.0 e) (among_with_more cmp (up eq cmp own edges p) (up eq cmp own edges edge.1) q m)
      by false e m = inl m

  pub up_old : (edge : K × K) (edges : List (K × K)) (p q : K) → Among (up eq cmp own edges p) q → Among (up eq cmp own (edge ∷ edges) p) q
  up_old edge edges p q h = by (has eq (up eq cmp own edges p) edge.0)
    where
      by : (b : Bool) → Among (cond b (with_more cmp (up eq cmp own edges p) (up eq cmp own edges edge.1)) (up eq cmp own edges p)) q
      by true = with_more_old cmp (up eq cmp own edges p) (up eq cmp own edges edge.1) q h
      by false = h

  pub up_through : (edge : K × K) (edges : List (K × K)) (p q : K) → Among (up eq cmp own edges p) edge.0 → Among (up eq cmp own edges edge.1) q → Among (up eq cmp own (edge ∷ edges) p) q
  up_through edge edges p q left right = by (has eq (up eq cmp own edges p) edge.0) (has_from_among eq decides (up eq cmp own edges p) edge.0 left)
    where
      by : (b : Bool) → b ≡ true → Among (cond b (with_more cmp (up eq cmp own edges p) (up eq cmp own edges edge.1)) (up eq cmp own edges p)) q
      by true e = with_more_new cmp exact (up eq cmp own edges p) (up eq cmp own edges edge.1) q right
      by false e = absurd cc

  -- ---- what a point entails
  pub up_self : (edges : List (K × K)) (p : K) → Among (up eq cmp own edges p) p
  up_self [] p = with_more_new cmp exact [] (p ∷ own p) p (inl refl)
  up_self (edge ∷ edges) p = up_old edge edges p p (up_self edges p)

  pub up_own : (edges : List (K × K)) (p q : K) → Among (own p) q → Among (up eq cmp own edges p) q
  up_own [] p q h = with_more_new cmp exact [] (p ∷ own p) q (inr h)
  up_own (edge ∷ edges) p q h = up_old edge edges p q (up_own edges p q h)

  pub up_edge : (edges : List (K × K)) (p q : K) → Among edges (p, q) → Among (up eq cmp own edges p) q
  up_edge [] p q h = absurd h
  up_edge (edge ∷ edges) p q (inl same) =
      up_through edge edges p q (subst (λ k. Among (up eq cmp own edges p) k) (sym (ap (λ (e : K × K). e.0) same)) (up_self edges p))
      (subst (λ k. Among (up eq cmp own edges edge.1) k) (ap (λ (e : K × K). e.1) same) (up_self edges edge.1))
  up_edge (edge ∷ edges) p q (inr h) = up_old edge edges p q (up_edge edges p q h)

  up_none : (p q : K) → Among (up eq cmp own [] p) q → (p ≡ q) ⊎ Among (own p) q
  up_none p q h = by (among_with_more cmp [] (p ∷ own p) q h)
    where
      by : Among {K = K} [] q ⊎ ((p ≡ q) ⊎ Among (own p) q) → (p ≡ q) ⊎ Among (own p) q
      by (inl none) = absurd none
      by (inr found) = found

  pub up_trans : (edges : List (K × K)) (p q r : K) → Among (up eq cmp own edges p) q → Among (up eq cmp own edges q) r → Among (up eq cmp own edges p) r
  up_trans [] p q r first rest = by (up_none p q first) (up_none q r rest)
    where
      by : (p ≡ q) ⊎ Among (own p) q → (q ≡ r) ⊎ Among (own q) r → Among (up eq cmp own [] p) r
      by (inl same) found = subst (λ k. Among (up eq cmp own [] k) r) (sym same) rest
      by (inr given) (inl same) = subst (λ k. Among (up eq cmp own [] p) k) same first
      by (inr given) (inr again) = up_own [] p r (own_joined p q r given again)
  up_trans (edge ∷ edges) p q r first rest = by (up_cons edge edges p q first) (up_cons edge edges q r rest) (up_trans edges)
    where
      by : Among (up eq cmp own edges p) q ⊎ (Among (up eq cmp own edges p) edge.0 × Among (up eq cmp own edges edge.1) q)
          → Among (up eq cmp own edges q) r ⊎ (Among (up eq cmp own edges q) edge.0 × Among (up eq cmp own edges edge.1) r)
          → ((a b c : K) → Among (up eq cmp own edges a) b → Among (up eq cmp own edges b) c → Among (up eq cmp own edges a) c)
          → Among (up eq cmp own (edge ∷ edges) p) r
      by (inl a) (inl b) more = up_old edge edges p r (more p q r a b)
      by (inl a) (inr b) more = up_through edge edges p r (more p q edge.0 a b.0) b.1
      by (inr a) (inl b) more = up_through edge edges p r a.0 (more edge.1 q r a.1 b)
      by (inr a) (inr b) more = up_through edge edges p r a.0 b.1

  -- ---- chains and `up`
  up_from_link : (edges : List (K × K)) (p r : K) → Linked own edges p r → Among (up eq cmp own edges p) r
  up_from_link edges p r (inl given) = up_own edges p r (among_from_contains (own p) r given)
  up_from_link edges p r (inr edge) = up_edge edges p r (among_from_contains edges (p, r) edge)

  pub up_from_chain : (edges : List (K × K)) (n : ℕ) (p q : K) → Chain own edges n p q → Among (up eq cmp own edges p) q
  up_from_chain edges zero p q c = subst (λ k. Among (up eq cmp own edges p) k) c (up_self edges p)
  up_from_chain edges (suc n) p q c = up_trans edges p c.0 q (up_from_link edges p c.0 c.1) (up_from_chain edges n c.0 q c.2)

  pub entails_from_up : (edges : List (K × K)) (p q : K) → Among (up eq cmp own edges p) q → Entails own edges p q
  entails_from_up [] p q h = by (up_none p q h)
    where
      by : (p ≡ q) ⊎ Among (own p) q → Entails own [] p q
      by (inl same) = (0, same)
      by (inr given) = (1, (q, inl (contains_from_among (own p) q given), refl))
  entails_from_up (edge ∷ edges) p q h = by (up_cons edge edges p q h) (entails_from_up edges)
    where
      wider : (a b : K) → Entails own edges a b → Entails own (edge ∷ edges) a b
      wider a b e = entails_within own edges (edge ∷ edges) (λ x m. inr m) a b e

      by : Among (up eq cmp own edges p) q ⊎ (Among (up eq cmp own edges p) edge.0 × Among (up eq cmp own edges edge.1) q)
          → ((a b : K) → Among (up eq cmp own edges a) b → Entails own edges a b) → Entails own (edge ∷ edges) p q
      by (inl old) more = wider p q (more p q old)
      by (inr new) more =
          let left = wider p edge.0 (more p edge.0 new.0) in
          let right = wider edge.1 q (more edge.1 q new.1) in
          let link : Chain own (edge ∷ edges) (suc right.0) edge.0 q = (edge.1, inr (contains_from_among (edge ∷ edges) (edge.0, edge.1) (inl refl)), right.1) in
          (left.0 + suc right.0, chain_append own (edge ∷ edges) left.0 (suc right.0) p edge.0 q left.1 link)

  pub up_decides : (edges : List (K × K)) (p q : K) → Decides (has eq (up eq cmp own edges p) q) (Entails own edges p q)
  up_decides edges p q = (
    λ found. entails_from_up edges p q (among_from_has eq decides (up eq cmp own edges p) q found),
    λ e. has_from_among eq decides (up eq cmp own edges p) q (up_from_chain edges e.0 p q e.1),
  )

  -- a chain with one more edge is one without it, or leads to its left side and on from its right side
  pub entails_apart : (edge : K × K) (edges : List (K × K)) (p q : K) → Entails own (edge ∷ edges) p q → Entails own edges p q ⊎ (Entails own edges p edge.0 × Entails own edges edge.1 q)
  entails_apart edge edges p q e = by (up_cons edge edges p q (up_from_chain (edge ∷ edges) e.0 p q e.1))
    where
      by : Among (up eq cmp own edges p) q ⊎ (Among (up eq cmp own edges p) edge.0 × Among (up eq cmp own edges edge.1) q) → Entails own edges p q ⊎ (Entails own edges p edge.0 × Entails own edges edge.1 q)
      by (inl old) = inl (entails_from_up edges p q old)
      by (inr new) = inr (entails_from_up edges p edge.0 new.0, entails_from_up edges edge.1 q new.1)

  pub entails_through : (edge : K × K) (edges : List (K × K)) (p q : K) → Entails own edges p edge.0 → Entails own edges edge.1 q → Entails own (edge ∷ edges) p q
  entails_through edge edges p q left right =
      let found = up_through edge edges p q (up_from_chain edges left.0 p edge.0 left.1) (up_from_chain edges right.0 edge.1 q right.1) in
      entails_from_up (edge ∷ edges) p q found

  -- ---- edges without a cycle
  first_ends : (edge : K × K) (edges : List (K × K)) → is_acyclic eq cmp own (edge ∷ edges) ≡ true → Among (up eq cmp own edges edge.1) edge.0 → ⊥
  first_ends edge edges h back = by (has eq (up eq cmp own edges edge.1) edge.0) (has_from_among eq decides (up eq cmp own edges edge.1) edge.0 back) h
    where
      by : (b : Bool) → b ≡ true → (not b && is_acyclic eq cmp own edges) ≡ true → ⊥
      by true e none = cc
      by false e none = cc

  rest_acyclic : (edge : K × K) (edges : List (K × K)) → is_acyclic eq cmp own (edge ∷ edges) ≡ true → is_acyclic eq cmp own edges ≡ true
  rest_acyclic edge edges h = by (has eq (up eq cmp own edges edge.1) edge.0) h
    where
      by : (b : Bool) → (not b && is_acyclic eq cmp own edges) ≡ true → is_acyclic eq cmp own edges ≡ true
      by true none = absurd cc
      by false rest = rest

  pub up_antisym : (edges : List (K × K)) → is_acyclic eq cmp own edges ≡ true → (p q : K) → Among (up eq cmp own edges p) q → Among (up eq cmp own edges q) p → p ≡ q
  up_antisym [] h p q there back = by (up_none p q there) (up_none q p back)
    where
      by : (p ≡ q) ⊎ Among (own p) q → (q ≡ p) ⊎ Among (own q) p → p ≡ q
      by (inl same) found = same
      by (inr given) (inl same) = sym same
      by (inr given) (inr again) = absurd (own_apart p (own_joined p q p given again))
  up_antisym (edge ∷ edges) h p q there back = by (up_cons edge edges p q there) (up_cons edge edges q p back) (up_antisym edges (rest_acyclic edge edges h) p q)
    where
      ends : Among (up eq cmp own edges edge.1) edge.0 → ⊥
      ends = first_ends edge edges h

      over : (a b c : K) → Among (up eq cmp own edges a) b → Among (up eq cmp own edges b) c → Among (up eq cmp own edges a) c
      over = up_trans edges

      by : Among (up eq cmp own edges p) q ⊎ (Among (up eq cmp own edges p) edge.0 × Among (up eq cmp own edges edge.1) q)
          → Among (up eq cmp own edges q) p ⊎ (Among (up eq cmp own edges q) edge.0 × Among (up eq cmp own edges edge.1) p)
          → (Among (up eq cmp own edges p) q → Among (up eq cmp own edges q) p → p ≡ q) → p ≡ q
      by (inl a) (inl b) more = more a b
      by (inl a) (inr b) more = absurd (ends (over edge.1 q edge.0 (over edge.1 p q b.1 a) b.0))
      by (inr a) (inl b) more = absurd (ends (over edge.1 p edge.0 (over edge.1 q p a.1 b) a.0))
      by (inr a) (inr b) more = absurd (ends (over edge.1 q edge.0 a.1 b.0))

  no_loop : (edges : List (K × K)) → is_acyclic eq cmp own edges ≡ true → (p : K) → Among edges (p, p) → ⊥
  no_loop [] h p m = m
  no_loop (edge ∷ edges) h p (inl same) =
      let left = ap (λ (e : K × K). e.0) same in
      let right = ap (λ (e : K × K). e.1) same in
      first_ends edge edges h (subst (λ k. Among (up eq cmp own edges k) edge.0) (left ∙ sym right) (up_self edges edge.0))
  no_loop (edge ∷ edges) h p (inr m) = no_loop edges (rest_acyclic edge edges h) p m

  pub acyclic_from : (edges : List (K × K)) → is_acyclic eq cmp own edges ≡ true → Acyclic own edges
  acyclic_from edges h n p c = by c.1
    where
      same : c.0 ≡ p
      same = up_antisym edges h c.0 p (up_from_chain edges n c.0 p c.2) (up_from_link edges p c.0 c.1)

      by : Linked own edges p c.0 → ⊥
      by (inl given) = own_apart p (subst (λ k. Among (own p) k) same (among_from_contains (own p) c.0 given))
      by (inr edge) = no_loop edges h p (subst (λ k. Among edges (p, k)) same (among_from_contains edges (p, c.0) edge))

  pub is_acyclic_from : (edges : List (K × K)) → Acyclic own edges → is_acyclic eq cmp own edges ≡ true
  is_acyclic_from [] none = refl
  is_acyclic_from (edge ∷ edges) none = by (has eq (up eq cmp own edges edge.1) edge.0) refl (is_acyclic_from edges (acyclic_within own edges (edge ∷ edges) (λ e m. inr m) none))
    where
      circle : Among (up eq cmp own edges edge.1) edge.0 → ⊥
      circle back =
          let chain = entails_within own edges (edge ∷ edges) (λ e m. inr m) edge.1 edge.0 (entails_from_up edges edge.1 edge.0 back) in
          none chain.0 edge.0 (edge.1, inr (contains_from_among (edge ∷ edges) (edge.0, edge.1) (inl refl)), chain.1)

      by : (b : Bool) → has eq (up eq cmp own edges edge.1) edge.0 ≡ b → is_acyclic eq cmp own edges ≡ true → (not b && is_acyclic eq cmp own edges) ≡ true
      by true e rest = absurd (circle (among_from_has eq decides (up eq cmp own edges edge.1) edge.0 e))
      by false e rest = rest

  pub acyclic_decides : (edges : List (K × K)) → Decides (is_acyclic eq cmp own edges) (Acyclic own edges)
  acyclic_decides edges = (acyclic_from edges, is_acyclic_from edges)

  -- if edges have no cycle, two points that entail each other are one
  pub no_ties : (edges : List (K × K)) → Acyclic own edges → (p q : K) → Entails own edges p q → Entails own edges q p → p ≡ q
  no_ties edges none p q there back =
      up_antisym edges (is_acyclic_from edges none) p q (up_from_chain edges there.0 p q there.1) (up_from_chain edges back.0 q p back.1)

  -- one more edge makes no cycle if its right side does not entail its left one
  pub acyclic_cons : (edge : K × K) (edges : List (K × K)) → Acyclic own edges → (Entails own edges edge.1 edge.0 → ⊥) → Acyclic own (edge ∷ edges)
  acyclic_cons edge edges none open_end = acyclic_from (edge ∷ edges) (by (has eq (up eq cmp own edges edge.1) edge.0) refl (is_acyclic_from edges none))
    where
      by : (b : Bool) → has eq (up eq cmp own edges edge.1) edge.0 ≡ b → is_acyclic eq cmp own edges ≡ true → (not b && is_acyclic eq cmp own edges) ≡ true
      by true e rest = absurd (open_end ((up_decides edges edge.1 edge.0).0 e))
      by false e rest = rest

  -- ---- the order of edges
  pub sorted_up : IsTotalOrder cmp → (edges : List (K × K)) (p : K) → IsStrictlySortedBy cmp (up eq cmp own edges p)
  sorted_up order [] p = sorted_with_more cmp order [] (p ∷ own p) (sorted_nil cmp order)
  sorted_up order (edge ∷ edges) p = by (has eq (up eq cmp own edges p) edge.0) (sorted_up order edges p)
    where
      by : (b : Bool) → IsStrictlySortedBy cmp (up eq cmp own edges p) → IsStrictlySortedBy cmp (cond b (with_more cmp (up eq cmp own edges p) (up eq cmp own edges edge.1)) (up eq cmp own edges p))
      by true sorted = sorted_with_more cmp order (up eq cmp own edges p) (up eq cmp own edges edge.1) sorted
      by false sorted = sorted

  up_within : (edges more : List (K × K)) → ((e : K × K) → Among edges e → Among more e) → (p q : K) → Among (up eq cmp own edges p) q → Among (up eq cmp own more p) q
  up_within edges more within p q h =
      let chain = entails_within own edges more within p q (entails_from_up edges p q h) in up_from_chain more chain.0 p q chain.1

  -- what a point entails depends on which edges there are, and not on their order
  pub up_same : IsTotalOrder cmp → (edges more : List (K × K)) → ((e : K × K) → Among edges e → Among more e) → ((e : K × K) → Among more e → Among edges e) → (p : K) → up eq cmp own edges p ≡ up eq cmp own more p
  up_same order edges more to from p =
      same_sets cmp order (up eq cmp own edges p) (up eq cmp own more p) (sorted_up order edges p) (sorted_up order more p) (up_within edges more to p) (up_within more edges from p)

-- ---- what a point entails by fewer links, it entails by more
module _ {K : Type 0} (eq : K → K → Bool) (cmp : K → K → Ordering)
    (decides : (x y : K) → Decides (eq x y) (x ≡ y)) (exact : CmpEqualImpliesEq cmp)
    (own wide : K → List K) (own_ordered : IsOrdered own) (wide_ordered : IsOrdered wide) where
  pub up_wider : (edges more : List (K × K)) → IsLinkedWithin own wide edges more → (p q : K) → Among (up eq cmp own edges p) q → Among (up eq cmp wide more p) q
  up_wider edges more within p q h =
      let chain = entails_wider own wide edges more within p q (entails_from_up eq cmp own decides exact own_ordered edges p q h) in
      up_from_chain eq cmp wide decides exact wide_ordered more chain.0 p q chain.1
