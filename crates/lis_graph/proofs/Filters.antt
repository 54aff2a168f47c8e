-- What passes a test: how many elements, and when two tests pass the same ones.
use Rattle.std.proofs.Common.{◌≡◌, ◌<◌, ◌≤◌, Bool, true, false, cond, not, ◌&&◌, ◌||◌, List, [], ◌∷◌, length, filter, refl, ap, inl, inr, arith}
use Rattle.std.specs.List.{list_any}
use Rattle.lis_graph.proofs.Members.{Among}

module _ {K : Type 0} where
  -- two tests that agree on the members
  pub filter_same : (f g : K → Bool) (xs : List K) → ((x : K) → Among xs x → f x ≡ g x) → filter f xs ≡ filter g xs
  filter_same f g [] same = refl
  filter_same f g (x ∷ xs) same = rw (same x (inl refl)) (ap (λ ys. cond (g x) (x ∷ ys) ys) (filter_same f g xs (λ y m. same y (inr m))))

  pub any_same : (f g : K → Bool) (xs : List K) → ((x : K) → Among xs x → f x ≡ g x) → list_any f xs ≡ list_any g xs
  any_same f g [] same = refl
  any_same f g (x ∷ xs) same = rw (same x (inl refl), any_same f g xs (λ y m. same y (inr m)))

  -- a test that all members pass
  pub filter_all : (keep : K → Bool) (xs : List K) → ((x : K) → Among xs x → keep x ≡ true) → filter keep xs ≡ xs
  filter_all keep [] each = refl
  filter_all keep (x ∷ xs) each = rw (each x (inl refl)) (ap (λ ys. x ∷ ys) (filter_all keep xs (λ y m. each y (inr m))))

  -- one test after the other
  pub filter_twice : (f g : K → Bool) (xs : List K) → filter g (filter f xs) ≡ filter (λ x. f x && g x) xs
  filter_twice f g [] = refl
  filter_twice f g (x ∷ xs) = by (f x) (g x) refl (filter_twice f g xs)
    where
      by : (a b : Bool) → g x ≡ b → filter g (filter f xs) ≡ filter (λ y. f y && g y) xs → filter g (cond a (x ∷ filter f xs) (filter f xs)) ≡ cond (a && b) (x ∷ filter (λ y. f y && g y) xs) (filter (λ y. f y && g y) xs)
      by true true e rest = rw e (ap (λ ys. x ∷ ys) rest)
      by true false e rest = rw e rest
      by false b e rest = rest

  -- no more elements pass than there are
  pub filter_le : (f : K → Bool) (xs : List K) → length (filter f xs) ≤ length xs
  filter_le f [] = omega arith
  filter_le f (x ∷ xs) = by (f x) (filter_le f xs)
    where
      by : (b : Bool) → length (filter f xs) ≤ length xs → length (cond b (x ∷ filter f xs) (filter f xs)) ≤ length (x ∷ xs)
      by true more = omega (arith, more)
      by false more = omega (arith, more)

  -- and fewer, if some member fails
  pub filter_fewer : (f : K → Bool) (xs : List K) → list_any (λ x. not (f x)) xs ≡ true → length (filter f xs) < length xs
  filter_fewer f [] h = absurd cc
  filter_fewer f (x ∷ xs) h = by (f x) h (filter_fewer f xs)
    where
      by : (b : Bool) → (not b || list_any (λ y. not (f y)) xs) ≡ true → (list_any (λ y. not (f y)) xs ≡ true → length (filter f xs) < length xs) → length (cond b (x ∷ filter f xs) (filter f xs)) < length (x ∷ xs)
      by true some more = omega (arith, more some)
      by false some more = omega (arith, filter_le f xs)
