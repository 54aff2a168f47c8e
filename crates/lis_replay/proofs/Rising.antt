-- Rising lists: what is above all members is inserted after them.
use Rattle.std.proofs.Common.{◌≡◌, true, List, [], ◌∷◌, ◌++◌, refl, sym, ap, subst, ◌∙◌, inl, inr, append_assoc, append-nil}
use Rattle.std.specs.declared.cmp.Ordering.{Ordering}
use Rattle.std.specs.declared.cmp.Ordering.TheVariants.{Less, Greater}
use Rattle.std.specs.Ordering.{ordering_reverse, is_lt}
use Rattle.std.specs.Cmp.{IsTotalOrder, tied_itself}
use Rattle.std.specs.BTreeSet.{insert_key}
use Rattle.std.specs.List.{list_all}
use Rattle.std.proofs.lemmas.Bool.{and_parts, and_from}
use Rattle.std.proofs.lemmas.List.Folds.{list_all-append}
use Rattle.lis_graph.specs.Graph.{is_rising, with_more}
use Rattle.lis_graph.proofs.Members.{Among, among_right}
use Rattle.lis_graph.proofs.Sets.{less_from}
use Rattle.lis_laws.proofs.Counts.{all_among}

module _ {K : Type 0} (cmp : K → K → Ordering) (order : IsTotalOrder cmp) where
  -- each prefix and each suffix of a rising list rises
  pub rising_front : (xs ys : List K) → is_rising cmp (xs ++ ys) ≡ true → is_rising cmp xs ≡ true
  rising_front [] ys h = refl
  rising_front (x ∷ xs) ys h =
      let parts = and_parts _ _ h in
      let below = and_parts _ _ (sym (list_all-append (λ y. is_lt (cmp x y)) xs ys) ∙ parts.0) in
      and_from _ _ below.0 (rising_front xs ys parts.1)

  pub rising_back : (xs ys : List K) → is_rising cmp (xs ++ ys) ≡ true → is_rising cmp ys ≡ true
  rising_back [] ys h = h
  rising_back (x ∷ xs) ys h = rising_back xs ys (and_parts _ _ h).1

  -- a member of a prefix is below those after it
  pub front_below : (xs ys : List K) (x y : K) → is_rising cmp (xs ++ ys) ≡ true → Among xs x → Among ys y → cmp x y ≡ Less
  front_below [] ys x y h m n = absurd m
  front_below (z ∷ xs) ys x y h (inl same) n =
      less_from (cmp x y) (all_among (λ k. is_lt (cmp x k)) (xs ++ ys) y (subst (λ (k : K). list_all (λ l. is_lt (cmp k l)) (xs ++ ys) ≡ true) same (and_parts _ _ h).0) (among_right xs ys y n))
  front_below (z ∷ xs) ys x y h (inr m) n = front_below xs ys x y (and_parts _ _ h).1 m n

  -- so it is none of them
  pub front_apart : (xs ys : List K) (x : K) → is_rising cmp (xs ++ ys) ≡ true → Among xs x → Among ys x → ⊥
  front_apart xs ys x h m n = let less = front_below xs ys x x h m n in let level = tied_itself order x in cc

  -- what is above all members is inserted at the end
  pub insert_behind : (xs : List K) (k : K) → ((x : K) → Among xs x → cmp x k ≡ Less) → insert_key cmp xs k ≡ xs ++ k ∷ []
  insert_behind [] k above = refl
  insert_behind (x ∷ xs) k above =
      let more : cmp k x ≡ Greater = order.antisymm k x ∙ ap ordering_reverse (above x (inl refl)) in
      rw more (ap (λ zs. x ∷ zs) (insert_behind xs k (λ y m. above y (inr m))))

  pub insert_next : (xs : List K) (k : K) (ys : List K) → is_rising cmp (xs ++ k ∷ ys) ≡ true → insert_key cmp xs k ≡ xs ++ k ∷ []
  insert_next xs k ys h = insert_behind xs k (λ x m. front_below xs (k ∷ ys) x k h m (inl refl))

  pub insert_all_next : (xs ys : List K) → is_rising cmp (xs ++ ys) ≡ true → with_more cmp xs ys ≡ xs ++ ys
  insert_all_next xs [] h = sym (append-nil xs)
  insert_all_next xs (y ∷ ys) h =
      let front = insert_next xs y ys h in
      let moved : (xs ++ y ∷ []) ++ ys ≡ xs ++ y ∷ ys = append_assoc xs (y ∷ []) ys in
      ap (λ zs. with_more cmp zs ys) front
      ∙ insert_all_next (xs ++ y ∷ []) ys (ap (is_rising cmp) moved ∙ h)
      ∙ moved
