-- Points that are put into a set one after another: which set they make, and how long it is.
use Rattle.lis_store.proofs.Common.{◌≡◌, ◌⊎◌, refl, sym, ap, ◌∙◌, subst, inl, inr, ◌+◌, List, [], ◌∷◌, length, arith, Ordering, Less, Equal, Greater, match_ordering, insert_key, AllByRecursion, IsStrictlySortedBy, Among, among_insert_key, below_tail, sorted_tail, sorted_nil}
use Rattle.std.specs.Ordering.{ordering_reverse}
use Rattle.std.specs.Cmp.{IsTotalOrder}
use Rattle.std.proofs.lemmas.Map.Lookups.{CmpEqualImpliesEq}
use Rattle.lis_graph.specs.Graph.{with_more}
use Rattle.lis_graph.proofs.Members.{among_with_more, with_more_old}
use Rattle.lis_graph.proofs.Sets.{sorted_with_more, same_sets}

-- ---- points of which no two tie, put into a set
module _ {K : Type 0} (cmp : K → K → Ordering) (order : IsTotalOrder cmp) where
  put_among : (xs : List K) (k : K) → ((x : K) → Among xs x → cmp k x ≡ Equal → k ≡ x) → Among (insert_key cmp xs k) k
  put_among [] k one = inl refl
  put_among (x ∷ xs) k one = by (cmp k x) refl (put_among xs k (λ y m. one y (inr m)))
    where
      by : (r : Ordering) → cmp k x ≡ r → Among (insert_key cmp xs k) k → Among (match_ordering r (k ∷ x ∷ xs) (x ∷ xs) (x ∷ insert_key cmp xs k)) k
      by Less e rest = inl refl
      by Equal e rest = inl (sym (one x (inl refl) e))
      by Greater e rest = inr rest

  more_among : (xs more : List K) → ((k x : K) → Among more k → Among xs x ⊎ Among more x → cmp k x ≡ Equal → k ≡ x) → (k : K) → Among more k → Among (with_more cmp xs more) k
  more_among xs [] one k m = absurd m
  more_among xs (n ∷ more) one k (inl same) =
      with_more_old cmp (insert_key cmp xs n) more k
      (subst (λ x. Among (insert_key cmp xs n) x) same (put_among xs n (λ x there. one n x (inl refl) (inl there))))
  more_among xs (n ∷ more) one k (inr m) = more_among (insert_key cmp xs n) more (λ j x there other. one j x (inr there) (either x other)) k m
    where
      put : (x : K) → (n ≡ x) ⊎ Among xs x → Among xs x ⊎ Among (n ∷ more) x
      put x (inl same) = inr (inl same)
      put x (inr old) = inl old

      either : (x : K) → Among (insert_key cmp xs n) x ⊎ Among more x → Among xs x ⊎ Among (n ∷ more) x
      either x (inl m) = put x (among_insert_key cmp xs n x m)
      either x (inr later) = inr (inr later)

  -- points in a set that compare as equal are one point
  pub no_tie : (x y : K) (xs : List K) → AllByRecursion (λ z. cmp x z ≡ Less) xs → Among xs y → cmp x y ≡ Equal → ⊥
  no_tie x y [] below m tied = absurd m
  no_tie x y (z ∷ xs) below (inl same) tied = let less = ap (cmp x) (sym same) ∙ below.0 in cc
  no_tie x y (z ∷ xs) below (inr m) tied = no_tie x y xs below.1 m tied

  one_point : (xs : List K) → IsStrictlySortedBy cmp xs → (x y : K) → Among xs x → Among xs y → cmp x y ≡ Equal → x ≡ y
  one_point [] sorted x y here there tied = absurd here
  one_point (z ∷ xs) sorted x y (inl is_x) (inl is_y) tied = sym is_x ∙ is_y
  one_point (z ∷ xs) sorted x y (inl is_x) (inr there) tied = absurd (no_tie z y xs (below_tail cmp order z xs sorted) there (ap (λ w. cmp w y) is_x ∙ tied))
  one_point (z ∷ xs) sorted x y (inr here) (inl is_y) tied =
      absurd (no_tie z x xs (below_tail cmp order z xs sorted) here (ap (λ w. cmp w x) is_y ∙ turned))
    where
      turned : cmp y x ≡ Equal
      turned = order.antisymm y x ∙ ap ordering_reverse tied
  one_point (z ∷ xs) sorted x y (inr here) (inr there) tied = one_point xs (sorted_tail cmp order z xs sorted) x y here there tied

  -- the set of these points is a set with the same members
  pub set_of_points : (xs ys : List K) → IsStrictlySortedBy cmp ys → ((x : K) → Among xs x → Among ys x) → ((x : K) → Among ys x → Among xs x) → ys ≡ with_more cmp [] xs
  set_of_points xs ys sorted to from =
      same_sets cmp order ys (with_more cmp [] xs) sorted (sorted_with_more cmp order [] xs (sorted_nil cmp order))
      (λ x m. more_among [] xs one x (from x m))
      (λ x m. to x (of_points x (among_with_more cmp [] xs x m)))
    where
      of_points : (x : K) → Among {K = K} [] x ⊎ Among xs x → Among xs x
      of_points x (inl none) = absurd none
      of_points x (inr m) = m

      one : (k x : K) → Among xs k → Among {K = K} [] x ⊎ Among xs x → cmp k x ≡ Equal → k ≡ x
      one k x here there tied = one_point ys sorted k x (to k here) (to x (of_points x there)) tied

-- ---- points without repeats
abbrev pub AllApart : {K : Type 0} → List K → Type 0
AllApart [] = Unit {0}
AllApart (x ∷ xs) = (Among xs x → ⊥) × AllApart xs

module _ {K : Type 0} (cmp : K → K → Ordering) (exact : CmpEqualImpliesEq cmp) where
  pub length-insert_key : (xs : List K) (k : K) → (Among xs k → ⊥) → length (insert_key cmp xs k) ≡ length xs + 1
  length-insert_key [] k new = omega arith
  length-insert_key (x ∷ xs) k new = by (cmp k x) refl (length-insert_key xs k (λ m. new (inr m)))
    where
      by : (r : Ordering) → cmp k x ≡ r → length (insert_key cmp xs k) ≡ length xs + 1 → length (match_ordering r (k ∷ x ∷ xs) (x ∷ xs) (x ∷ insert_key cmp xs k)) ≡ length (x ∷ xs) + 1
      by Less e more = omega arith
      by Equal e more = absurd (new (inl (sym (exact k x e))))
      by Greater e more = omega (arith, more)

  -- their set has as many
  pub length-with_more : (xs more : List K) → AllApart more → ((x : K) → Among more x → Among xs x → ⊥) → length (with_more cmp xs more) ≡ length xs + length more
  length-with_more xs [] apart new = omega arith
  length-with_more xs (m ∷ more) apart new =
      let one = length-insert_key xs m (new m (inl refl)) in
      let rest = length-with_more (insert_key cmp xs m) more apart.1 (λ x there old. either x there (among_insert_key cmp xs m x old)) in
      omega (arith, one, rest)
    where
      either : (x : K) → Among more x → (m ≡ x) ⊎ Among xs x → ⊥
      either x there (inl same) = apart.0 (subst (λ k. Among more k) (sym same) there)
      either x there (inr old) = new x (inr there) old
