-- Sorted sets: two with the same members are one list, and a set stays sorted when points are inserted.
use Rattle.std.proofs.Common.{◌<◌, ◌≤◌, length, arith, ◌⊎◌, ◌≡◌, Bool, true, false, ◌&&◌, List, [], ◌∷◌, refl, sym, ap, subst, ◌∙◌, inl, inr}
use Rattle.std.specs.declared.cmp.Ordering.{Ordering}
use Rattle.std.specs.declared.cmp.Ordering.TheVariants.{Less, Equal, Greater}
use Rattle.std.specs.Ordering.{match_ordering, ordering_reverse, is_lt}
use Rattle.std.specs.Cmp.{IsTotalOrder, tied_itself}
use Rattle.std.specs.BTreeSet.{insert_key}
use Rattle.std.specs.List.{AllByRecursion, list_all}
use Rattle.std.specs.List.Sorted.{IsStrictlySortedBy}
use Rattle.lis_graph.specs.Graph.{with_more, is_rising}
use Rattle.lis_graph.proofs.Members.{Among}

pub less_from : (r : Ordering) → is_lt r ≡ true → r ≡ Less
less_from Less h = refl
less_from Equal h = absurd cc
less_from Greater h = absurd cc

module _ {K : Type 0} (cmp : K → K → Ordering) (order : IsTotalOrder cmp) where
  -- what holds of all elements holds of a member
  holds_among : (P : K → Type 0) (xs : List K) (x : K) → AllByRecursion P xs → Among xs x → P x
  holds_among P [] x all m = absurd m
  holds_among P (y ∷ ys) x all (inl same) = subst P same all.0
  holds_among P (y ∷ ys) x all (inr m) = holds_among P ys x all.1 m

  not_below_itself : (x : K) → cmp x x ≡ Less → ⊥
  not_below_itself x less = let level = tied_itself order x in cc

  not_both_below : (x y : K) → cmp x y ≡ Less → cmp y x ≡ Less → ⊥
  not_both_below x y less more = let turned = order.antisymm x y ∙ ap ordering_reverse more in cc

  pub below_tail : (x : K) (xs : List K) → IsStrictlySortedBy cmp (x ∷ xs) → AllByRecursion (λ y. cmp x y ≡ Less) xs
  unfolding IsStrictlySortedBy
  below_tail x xs h = h.0

  pub sorted_tail : (x : K) (xs : List K) → IsStrictlySortedBy cmp (x ∷ xs) → IsStrictlySortedBy cmp xs
  unfolding IsStrictlySortedBy
  sorted_tail x xs h = h.1

  pub sorted_nil : IsStrictlySortedBy cmp []
  unfolding IsStrictlySortedBy
  sorted_nil = tt

  pub sorted_cons : (x : K) (xs : List K) → AllByRecursion (λ y. cmp x y ≡ Less) xs → IsStrictlySortedBy cmp xs → IsStrictlySortedBy cmp (x ∷ xs)
  unfolding IsStrictlySortedBy
  sorted_cons x xs below rest = (below, rest)

  same_heads : (x y : K) (xs ys : List K) → IsStrictlySortedBy cmp (x ∷ xs) → IsStrictlySortedBy cmp (y ∷ ys) → Among (y ∷ ys) x → Among (x ∷ xs) y → x ≡ y
  same_heads x y xs ys sx sy (inl same) back = sym same
  same_heads x y xs ys sx sy (inr deep) (inl same) = same
  same_heads x y xs ys sx sy (inr deep) (inr back) =
      absurd (not_both_below y x (holds_among (λ z. cmp y z ≡ Less) ys x (below_tail y ys sy) deep) (holds_among (λ z. cmp x z ≡ Less) xs y (below_tail x xs sx) back))

  -- a member of the one tail is one of the other
  same_tails : (x y z : K) (xs ys : List K) → x ≡ y → IsStrictlySortedBy cmp (x ∷ xs) → Among xs z → Among (y ∷ ys) z → Among ys z
  same_tails x y z xs ys heads sx m (inl same) = absurd (not_below_itself z (subst (λ k. cmp k z ≡ Less) (heads ∙ same) (holds_among (λ w. cmp x w ≡ Less) xs z (below_tail x xs sx) m)))
  same_tails x y z xs ys heads sx m (inr deep) = deep

  -- two sorted sets with the same members are the same list
  pub same_sets : (xs ys : List K) → IsStrictlySortedBy cmp xs → IsStrictlySortedBy cmp ys → ((z : K) → Among xs z → Among ys z) → ((z : K) → Among ys z → Among xs z) → xs ≡ ys
  same_sets [] [] sx sy to from = refl
  same_sets [] (y ∷ ys) sx sy to from = absurd (from y (inl refl))
  same_sets (x ∷ xs) [] sx sy to from = absurd (to x (inl refl))
  same_sets (x ∷ xs) (y ∷ ys) sx sy to from =
      let heads = same_heads x y xs ys sx sy (to x (inl refl)) (from y (inl refl)) in
      let tails = same_sets xs ys (sorted_tail x xs sx) (sorted_tail y ys sy)
      (λ z m. same_tails x y z xs ys heads sx m (to z (inr m)))
      (λ z m. same_tails y x z ys xs (sym heads) sy m (from z (inr m))) in
      ap (λ z. z ∷ xs) heads ∙ ap (λ zs. y ∷ zs) tails

  -- ---- points that are inserted
  above_all : (k x : K) (xs : List K) → cmp k x ≡ Less → AllByRecursion (λ y. cmp x y ≡ Less) xs → AllByRecursion (λ y. cmp k y ≡ Less) xs
  above_all k x [] less all = tt
  above_all k x (y ∷ ys) less all = (order.trans k x y less all.0, above_all k x ys less all.1)

  below_inserted : (x k : K) (xs : List K) → cmp x k ≡ Less → AllByRecursion (λ y. cmp x y ≡ Less) xs → AllByRecursion (λ y. cmp x y ≡ Less) (insert_key cmp xs k)
  below_inserted x k [] less all = (less, tt)
  below_inserted x k (y ∷ ys) less all = by (cmp k y) (below_inserted x k ys less all.1)
    where
      by : (r : Ordering) → AllByRecursion (λ z. cmp x z ≡ Less) (insert_key cmp ys k) → AllByRecursion (λ z. cmp x z ≡ Less) (match_ordering r (k ∷ y ∷ ys) (y ∷ ys) (y ∷ insert_key cmp ys k))
      by Less rest = (less, all)
      by Equal rest = all
      by Greater rest = (all.0, rest)

  pub sorted_insert_key : (xs : List K) (k : K) → IsStrictlySortedBy cmp xs → IsStrictlySortedBy cmp (insert_key cmp xs k)
  sorted_insert_key [] k sx = sorted_cons k [] tt sorted_nil
  sorted_insert_key (y ∷ ys) k sx = by (cmp k y) refl (sorted_insert_key ys k (sorted_tail y ys sx))
    where
      by : (r : Ordering) → cmp k y ≡ r → IsStrictlySortedBy cmp (insert_key cmp ys k) → IsStrictlySortedBy cmp (match_ordering r (k ∷ y ∷ ys) (y ∷ ys) (y ∷ insert_key cmp ys k))
      by Less e rest = sorted_cons k (y ∷ ys) (e, above_all k y ys e (below_tail y ys sx)) sx
      by Equal e rest = sx
      by Greater e rest = sorted_cons y (insert_key cmp ys k) (below_inserted y k ys (order.antisymm y k ∙ ap ordering_reverse e) (below_tail y ys sx)) rest

  pub sorted_with_more : (xs more : List K) → IsStrictlySortedBy cmp xs → IsStrictlySortedBy cmp (with_more cmp xs more)
  sorted_with_more xs [] sx = sx
  sorted_with_more xs (m ∷ ms) sx = sorted_with_more (insert_key cmp xs m) ms (sorted_insert_key xs m sx)

  -- ---- the test of a sorted set
  all_below : (x : K) (xs : List K) → list_all (λ y. is_lt (cmp x y)) xs ≡ true → AllByRecursion (λ y. cmp x y ≡ Less) xs
  all_below x [] h = tt
  all_below x (y ∷ ys) h = by (cmp x y) refl h (all_below x ys)
    where
      by : (r : Ordering) → cmp x y ≡ r → (is_lt r && list_all (λ z. is_lt (cmp x z)) ys) ≡ true → (list_all (λ z. is_lt (cmp x z)) ys ≡ true → AllByRecursion (λ z. cmp x z ≡ Less) ys) → (cmp x y ≡ Less) × AllByRecursion (λ z. cmp x z ≡ Less) ys
      by Less e rest more = (e, more rest)
      by Equal e rest more = absurd cc
      by Greater e rest more = absurd cc

  pub sorted_from_rising : (xs : List K) → is_rising cmp xs ≡ true → IsStrictlySortedBy cmp xs
  sorted_from_rising [] h = sorted_nil
  sorted_from_rising (x ∷ xs) h = by (list_all (λ y. is_lt (cmp x y)) xs) refl h (sorted_from_rising xs)
    where
      by : (b : Bool) → list_all (λ y. is_lt (cmp x y)) xs ≡ b → (b && is_rising cmp xs) ≡ true → (is_rising cmp xs ≡ true → IsStrictlySortedBy cmp xs) → IsStrictlySortedBy cmp (x ∷ xs)
      by true e rest more = sorted_cons x xs (all_below x xs e) (more rest)
      by false e rest more = absurd cc

  -- ---- how many members
  not_first : (x : K) (xs : List K) (z : K) → AllByRecursion (λ y. cmp x y ≡ Less) xs → Among xs z → x ≡ z → ⊥
  not_first x xs z below m same = not_below_itself z (subst (λ k. cmp k z ≡ Less) same (holds_among (λ y. cmp x y ≡ Less) xs z below m))

  -- a sorted set inside another one has no more members
  pub members_le : (xs ys : List K) → IsStrictlySortedBy cmp xs → IsStrictlySortedBy cmp ys → ((z : K) → Among xs z → Among ys z) → length xs ≤ length ys
  members_le [] ys sx sy to = omega arith
  members_le (x ∷ xs) [] sx sy to = absurd (to x (inl refl))
  members_le (x ∷ xs) (y ∷ ys) sx sy to = by (to x (inl refl)) (members_le xs ys (sorted_tail x xs sx) (sorted_tail y ys sy)) (members_le (x ∷ xs) ys sx (sorted_tail y ys sy))
    where
      by : (y ≡ x) ⊎ Among ys x → (((z : K) → Among xs z → Among ys z) → length xs ≤ length ys) → (((z : K) → Among (x ∷ xs) z → Among ys z) → length (x ∷ xs) ≤ length ys) → length (x ∷ xs) ≤ length (y ∷ ys)
      by (inl same) tails skipped = omega (arith, tails (λ z m. same_tails x y z xs ys (sym same) sx m (to z (inr m))))
      by (inr deep) tails skipped = omega (arith, skipped (λ z m. later z m (to z m)))
        where
          later : (z : K) → Among (x ∷ xs) z → (y ≡ z) ⊎ Among ys z → Among ys z
          later z m (inr rest) = rest
          later z (inl is_x) (inl is_y) = absurd (not_first y ys x (below_tail y ys sy) deep (is_y ∙ sym is_x))
          later z (inr in_xs) (inl is_y) = absurd (not_both_below y x (holds_among (λ w. cmp y w ≡ Less) ys x (below_tail y ys sy) deep)
              (subst (λ w. cmp x w ≡ Less) (sym is_y) (holds_among (λ w. cmp x w ≡ Less) xs z (below_tail x xs sx) in_xs)))

  -- and fewer, if the other one has a member that the set lacks
  pub members_lt : (xs ys : List K) (k : K) → IsStrictlySortedBy cmp xs → IsStrictlySortedBy cmp ys → ((z : K) → Among xs z → Among ys z) → Among ys k → (Among xs k → ⊥) → length xs < length ys
  members_lt xs [] k sx sy to m none = absurd m
  members_lt [] (y ∷ ys) k sx sy to m none = omega arith
  members_lt (x ∷ xs) (y ∷ ys) k sx sy to m none = by (to x (inl refl)) m (members_lt xs ys k (sorted_tail x xs sx) (sorted_tail y ys sy)) (members_le (x ∷ xs) ys sx (sorted_tail y ys sy))
    where
      by : (y ≡ x) ⊎ Among ys x → (y ≡ k) ⊎ Among ys k → (((z : K) → Among xs z → Among ys z) → Among ys k → (Among xs k → ⊥) → length xs < length ys) → (((z : K) → Among (x ∷ xs) z → Among ys z) → length (x ∷ xs) ≤ length ys) → length (x ∷ xs) < length (y ∷ ys)
      by (inl same) (inl is_k) tails skipped = absurd (none (inl (sym same ∙ is_k)))
      by (inl same) (inr in_ys) tails skipped = omega (arith, tails (λ z h. same_tails x y z xs ys (sym same) sx h (to z (inr h))) in_ys (λ h. none (inr h)))
      by (inr deep) place tails skipped = omega (arith, skipped (λ z h. later z h (to z h)))
        where
          later : (z : K) → Among (x ∷ xs) z → (y ≡ z) ⊎ Among ys z → Among ys z
          later z h (inr rest) = rest
          later z (inl is_x) (inl is_y) = absurd (not_first y ys x (below_tail y ys sy) deep (is_y ∙ sym is_x))
          later z (inr in_xs) (inl is_y) = absurd (not_both_below y x (holds_among (λ w. cmp y w ≡ Less) ys x (below_tail y ys sy) deep)
              (subst (λ w. cmp x w ≡ Less) (sym is_y) (holds_among (λ w. cmp x w ≡ Less) xs z (below_tail x xs sx) in_xs)))
