-- The members of lists: `Among` is by cases, and `Contains` by an index. A lemma `among_F` says what a member of F is, and `F_among` makes
-- one.
use Rattle.std.proofs.Common.{◌≡◌, ◌⊎◌, ℕ, zero, suc, ◌<◌, Bool, true, false, cond, ◌||◌, Some, None, List, [], ◌∷◌, ◌++◌, length, get_or, take, drop, map, filter, Decides, refl, sym, ap, subst, ◌∙◌, inl, inr, arith}
use Rattle.std.specs.declared.cmp.Ordering.{Ordering}
use Rattle.std.specs.declared.cmp.Ordering.TheVariants.{Less, Equal, Greater}
use Rattle.std.specs.Ordering.{match_ordering}
use Rattle.std.specs.BTreeSet.{insert_key}
use Rattle.std.specs.List.{list_any, list_all, find, flat_map, Contains}
use Rattle.std.proofs.lemmas.Bool.{and_parts, and_from}
use Rattle.std.proofs.lemmas.List.{take-append-drop}
use Rattle.std.proofs.lemmas.Map.Lookups.{CmpEqualImpliesEq}
use Rattle.lis_graph.specs.Graph.{has, with_more}

-- x is a member of the list
abbrev pub Among : {K : Type 0} → List K → K → Type 0
Among [] x = ⊥
Among (y ∷ ys) x = (y ≡ x) ⊎ Among ys x

module _ {K : Type 0} where
  -- ---- `Among` and `Contains`
  pub among_from_contains : (xs : List K) (x : K) → Contains xs x → Among xs x
  among_from_contains [] x h = absurd (omega (arith, h.1))
  among_from_contains (y ∷ ys) x h = by h.0 h.1 h.2 (among_from_contains ys x)
    where
      by : (k : ℕ) → k < length (y ∷ ys) → get_or (y ∷ ys) k x ≡ x → (Contains ys x → Among ys x) → Among (y ∷ ys) x
      by zero lt e more = inl e
      by (suc k) lt e more = inr (more (k, omega arith, e))

  pub contains_from_among : (xs : List K) (x : K) → Among xs x → Contains xs x
  contains_from_among [] x h = absurd h
  contains_from_among (y ∷ ys) x (inl e) = (0, omega arith, e)
  contains_from_among (y ∷ ys) x (inr h) = let rest = contains_from_among ys x h in (suc rest.0, omega (arith, rest.1), rest.2)

  pub among_at : (xs : List K) (k : ℕ) (d : K) → k < length xs → Among xs (get_or xs k d)
  among_at [] k d lt = absurd (omega arith)
  among_at (x ∷ xs) zero d lt = inl refl
  among_at (x ∷ xs) (suc k) d lt = inr (among_at xs k d (omega (arith, lt)))

  -- ---- tests
  pub all_among : (test : K → Bool) (xs : List K) (x : K) → list_all test xs ≡ true → Among xs x → test x ≡ true
  all_among test [] x h m = absurd m
  all_among test (y ∷ ys) x h (inl same) = ap test (sym same) ∙ (and_parts _ _ h).0
  all_among test (y ∷ ys) x h (inr m) = all_among test ys x (and_parts _ _ h).1 m

  pub all_from : (test : K → Bool) (xs : List K) → ((x : K) → Among xs x → test x ≡ true) → list_all test xs ≡ true
  all_from test [] each = refl
  all_from test (y ∷ ys) each = and_from _ _ (each y (inl refl)) (all_from test ys (λ x m. each x (inr m)))

  pub among_from_any : (test : K → Bool) (xs : List K) → list_any test xs ≡ true → (x : K) × Among xs x × (test x ≡ true)
  among_from_any test [] h = absurd cc
  among_from_any test (x ∷ xs) h = by (test x) refl h (among_from_any test xs)
    where
      by : (b : Bool) → test x ≡ b → (b || list_any test xs) ≡ true → (list_any test xs ≡ true → (y : K) × Among xs y × (test y ≡ true)) → (y : K) × Among (x ∷ xs) y × (test y ≡ true)
      by true e some more = (x, inl refl, e)
      by false e some more = let rest = more some in (rest.0, inr rest.1, rest.2)

  pub any_from_among : (test : K → Bool) (xs : List K) (x : K) → Among xs x → test x ≡ true → list_any test xs ≡ true
  any_from_among test [] x h e = absurd h
  any_from_among test (y ∷ ys) x (inl same) e = ap (λ b. b || list_any test ys) (ap test same ∙ e)
  any_from_among test (y ∷ ys) x (inr h) e = by (test y) (any_from_among test ys x h e)
    where
      by : (b : Bool) → list_any test ys ≡ true → (b || list_any test ys) ≡ true
      by true rest = refl
      by false rest = rest

  -- the first member that passes a test
  pub find_among : (test : K → Bool) (xs : List K) (x : K) → find test xs ≡ Some x → Among xs x × (test x ≡ true)
  find_among test [] x h = absurd cc
  find_among test (y ∷ ys) x h = by (test y) refl h (find_among test ys x)
    where
      by : (b : Bool) → test y ≡ b → cond b (Some y) (find test ys) ≡ Some x → (find test ys ≡ Some x → Among ys x × (test x ≡ true)) → Among (y ∷ ys) x × (test x ≡ true)
      by true e found more = let same : y ≡ x = cc in (inl same, subst (λ k. test k ≡ true) same e)
      by false e found more = let rest = more found in (inr rest.0, rest.1)

  pub find_none : (test : K → Bool) (xs : List K) (x : K) → find test xs ≡ None → Among xs x → test x ≡ false
  find_none test [] x h m = absurd m
  find_none test (y ∷ ys) x h m = by (test y) refl h m (find_none test ys x)
    where
      by : (b : Bool) → test y ≡ b → cond b (Some y) (find test ys) ≡ None → Among (y ∷ ys) x → (find test ys ≡ None → Among ys x → test x ≡ false) → test x ≡ false
      by true e none among more = absurd cc
      by false e none (inl same) more = ap test (sym same) ∙ e
      by false e none (inr deep) more = more none deep

  pub none_found : (test : K → Bool) (xs : List K) → ((x : K) → Among xs x → test x ≡ false) → find test xs ≡ None
  none_found test [] each = refl
  none_found test (y ∷ ys) each = by (test y) (each y (inl refl)) (none_found test ys (λ x m. each x (inr m)))
    where
      by : (b : Bool) → b ≡ false → find test ys ≡ None → cond b (Some y) (find test ys) ≡ None
      by true e rest = absurd cc
      by false e rest = rest

  pub among_filter : (test : K → Bool) (xs : List K) (x : K) → Among (filter test xs) x → Among xs x × (test x ≡ true)
  among_filter test [] x h = absurd h
  among_filter test (y ∷ ys) x h = by (test y) refl h (among_filter test ys x)
    where
      by : (b : Bool) → test y ≡ b → Among (cond b (y ∷ filter test ys) (filter test ys)) x → (Among (filter test ys) x → Among ys x × (test x ≡ true)) → Among (y ∷ ys) x × (test x ≡ true)
      by true e (inl same) more = (inl same, ap test (sym same) ∙ e)
      by true e (inr m) more = let rest = more m in (inr rest.0, rest.1)
      by false e m more = let rest = more m in (inr rest.0, rest.1)

  pub filter_among : (test : K → Bool) (xs : List K) (x : K) → Among xs x → test x ≡ true → Among (filter test xs) x
  filter_among test [] x h e = absurd h
  filter_among test (y ∷ ys) x h e = by (test y) refl h (λ m. filter_among test ys x m e)
    where
      by : (b : Bool) → test y ≡ b → Among (y ∷ ys) x → (Among ys x → Among (filter test ys) x) → Among (cond b (y ∷ filter test ys) (filter test ys)) x
      by true here (inl same) more = inl same
      by true here (inr m) more = inr (more m)
      by false here (inl same) more = absurd (let f = ap test same in cc)
      by false here (inr m) more = more m

  -- ---- lists joined
  pub among_append : (xs ys : List K) (x : K) → Among (xs ++ ys) x → Among xs x ⊎ Among ys x
  among_append [] ys x h = inr h
  among_append (y ∷ xs) ys x (inl same) = inl (inl same)
  among_append (y ∷ xs) ys x (inr h) = by (among_append xs ys x h)
    where
      by : Among xs x ⊎ Among ys x → Among (y ∷ xs) x ⊎ Among ys x
      by (inl m) = inl (inr m)
      by (inr m) = inr m

  pub among_left : (xs ys : List K) (x : K) → Among xs x → Among (xs ++ ys) x
  among_left [] ys x h = absurd h
  among_left (y ∷ xs) ys x (inl same) = inl same
  among_left (y ∷ xs) ys x (inr h) = inr (among_left xs ys x h)

  pub among_right : (xs ys : List K) (x : K) → Among ys x → Among (xs ++ ys) x
  among_right [] ys x h = h
  among_right (y ∷ xs) ys x h = inr (among_right xs ys x h)

  pub among_take : (n : ℕ) (xs : List K) (x : K) → Among (take n xs) x → Among xs x
  among_take n xs x m = subst (λ ys. Among ys x) (take-append-drop n xs) (among_left (take n xs) (drop n xs) x m)

module _ {A B : Type 0} (f : A → B) where
  pub among_map : (xs : List A) (y : B) → Among (map f xs) y → (x : A) × Among xs x × (f x ≡ y)
  among_map [] y h = absurd h
  among_map (x ∷ xs) y (inl same) = (x, inl refl, same)
  among_map (x ∷ xs) y (inr h) = let rest = among_map xs y h in (rest.0, inr rest.1, rest.2)

  pub map_among : (xs : List A) (x : A) → Among xs x → Among (map f xs) (f x)
  map_among [] x h = absurd h
  map_among (y ∷ xs) x (inl same) = inl (ap f same)
  map_among (y ∷ xs) x (inr h) = inr (map_among xs x h)

module _ {A B : Type 0} (f : A → List B) where
  pub among_flat_map : (xs : List A) (y : B) → Among (flat_map f xs) y → (x : A) × Among xs x × Among (f x) y
  among_flat_map [] y h = absurd h
  among_flat_map (x ∷ xs) y h = by (among_append (f x) (flat_map f xs) y h) (among_flat_map xs y)
    where
      by : Among (f x) y ⊎ Among (flat_map f xs) y → (Among (flat_map f xs) y → (z : A) × Among xs z × Among (f z) y) → (z : A) × Among (x ∷ xs) z × Among (f z) y
      by (inl m) more = (x, inl refl, m)
      by (inr m) more = let rest = more m in (rest.0, inr rest.1, rest.2)

  pub flat_map_among : (xs : List A) (x : A) (y : B) → Among xs x → Among (f x) y → Among (flat_map f xs) y
  flat_map_among [] x y h m = absurd h
  flat_map_among (z ∷ xs) x y (inl same) m = among_left (f z) (flat_map f xs) y (subst (λ (a : A). Among (f a) y) (sym same) m)
  flat_map_among (z ∷ xs) x y (inr h) m = among_right (f z) (flat_map f xs) y (flat_map_among xs x y h m)

-- ---- sorted sets
module _ {K : Type 0} (cmp : K → K → Ordering) where
  pub among_insert_key : (xs : List K) (k x : K) → Among (insert_key cmp xs k) x → (k ≡ x) ⊎ Among xs x
  among_insert_key [] k x h = h
  among_insert_key (y ∷ ys) k x h = by (cmp k y) h (among_insert_key ys k x)
    where
      deeper : (k ≡ x) ⊎ Among ys x → (k ≡ x) ⊎ Among (y ∷ ys) x
      deeper (inl same) = inl same
      deeper (inr rest) = inr (inr rest)

      by : (r : Ordering) → Among (match_ordering r (k ∷ y ∷ ys) (y ∷ ys) (y ∷ insert_key cmp ys k)) x → (Among (insert_key cmp ys k) x → (k ≡ x) ⊎ Among ys x) → (k ≡ x) ⊎ Among (y ∷ ys) x
      by Less m more = m
      by Equal m more = inr m
      by Greater (inl same) more = inr (inl same)
      by Greater (inr m) more = deeper (more m)

  pub insert_key_old : (xs : List K) (k x : K) → Among xs x → Among (insert_key cmp xs k) x
  insert_key_old [] k x h = absurd h
  insert_key_old (y ∷ ys) k x h = by (cmp k y) h (insert_key_old ys k x)
    where
      by : (r : Ordering) → Among (y ∷ ys) x → (Among ys x → Among (insert_key cmp ys k) x) → Among (match_ordering r (k ∷ y ∷ ys) (y ∷ ys) (y ∷ insert_key cmp ys k)) x
      by Less m more = inr m
      by Equal m more = m
      by Greater (inl same) more = inl same
      by Greater (inr m) more = inr (more m)

  pub insert_key_new : CmpEqualImpliesEq cmp → (xs : List K) (k : K) → Among (insert_key cmp xs k) k
  insert_key_new same [] k = inl refl
  insert_key_new same (y ∷ ys) k = by (cmp k y) refl (insert_key_new same ys k)
    where
      by : (r : Ordering) → cmp k y ≡ r → Among (insert_key cmp ys k) k → Among (match_ordering r (k ∷ y ∷ ys) (y ∷ ys) (y ∷ insert_key cmp ys k)) k
      by Less e rest = inl refl
      by Equal e rest = inl (sym (same k y e))
      by Greater e rest = inr rest

  pub among_with_more : (xs more : List K) (x : K) → Among (with_more cmp xs more) x → Among xs x ⊎ Among more x
  among_with_more xs [] x h = inl h
  among_with_more xs (m ∷ ms) x h = by (among_with_more (insert_key cmp xs m) ms x h)
    where
      put : (m ≡ x) ⊎ Among xs x → Among xs x ⊎ Among (m ∷ ms) x
      put (inl same) = inr (inl same)
      put (inr old) = inl old

      by : Among (insert_key cmp xs m) x ⊎ Among ms x → Among xs x ⊎ Among (m ∷ ms) x
      by (inl inserted) = put (among_insert_key xs m x inserted)
      by (inr rest) = inr (inr rest)

  pub with_more_old : (xs more : List K) (x : K) → Among xs x → Among (with_more cmp xs more) x
  with_more_old xs [] x h = h
  with_more_old xs (m ∷ ms) x h = with_more_old (insert_key cmp xs m) ms x (insert_key_old xs m x h)

  pub with_more_new : CmpEqualImpliesEq cmp → (xs more : List K) (x : K) → Among more x → Among (with_more cmp xs more) x
  with_more_new same xs [] x h = absurd h
  with_more_new same xs (m ∷ ms) x (inl e) = with_more_old (insert_key cmp xs m) ms x (subst (λ (k : K). Among (insert_key cmp xs m) k) e (insert_key_new same xs m))
  with_more_new same xs (m ∷ ms) x (inr h) = with_more_new same (insert_key cmp xs m) ms x h

-- ---- the test of a member
module _ {K : Type 0} (eq : K → K → Bool) (decides : (x y : K) → Decides (eq x y) (x ≡ y)) where
  pub among_from_has : (xs : List K) (x : K) → has eq xs x ≡ true → Among xs x
  among_from_has xs x h =
      let found = among_from_any (λ y. eq y x) xs h in
      subst (λ (k : K). Among xs k) ((decides found.0 x).0 found.2) found.1

  pub has_from_among : (xs : List K) (x : K) → Among xs x → has eq xs x ≡ true
  has_from_among xs x h = any_from_among (λ y. eq y x) xs x h ((decides x x).1 refl)
