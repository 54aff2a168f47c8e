-- Members of lists by their indexes, and the first member that passes a test.
use Rattle.std.proofs.Common.{◌≡◌, ℕ, ◌≤◌, Bool, true, false, cond, ◌&&◌, ◌||◌, Option, Some, None, List, [], ◌∷◌, length, take, refl, sym, ap, ◌∙◌, inl, inr}
use Rattle.std.specs.List.{slice_get, find, list_any, Contains}
use Rattle.std.specs.Option.{option_map}
use Rattle.std.proofs.lemmas.List.{take_all}
use Rattle.std.proofs.lemmas.Option.{slice_get_within, get_or_from_slice_get, slice_get_cases}
use Rattle.lis_graph.proofs.Members.{Among}

module _ {X : Type 0} where
  pub contains_at : (xs : List X) (k : ℕ) (x : X) → slice_get xs k ≡ Some x → Contains xs x
  contains_at xs k x e = (k, slice_get_within xs k x e, get_or_from_slice_get xs k x x e)

  pub past_end : (xs : List X) (k : ℕ) → slice_get xs k ≡ None → length xs ≤ k
  past_end xs k e = elim (slice_get_cases xs k).1 [
    | inl there ↦ absurd (let some = there.2 in cc)
    | inr past ↦ past.0
  ]

  pub all_taken : (xs : List X) (k : ℕ) → slice_get xs k ≡ None → take k xs ≡ xs
  all_taken xs k e = take_all k xs (past_end xs k e)

  -- the first member that passes
  pub find_first : (test : X → Bool) (xs : List X) (x : X) → Among xs x → test x ≡ true → (y : X) × (find test xs ≡ Some y) × Among xs y × (test y ≡ true)
  find_first test [] x m e = absurd m
  find_first test (y ∷ ys) x m e = by (test y) refl m (λ rest. find_first test ys x rest e)
    where
      by : (b : Bool) → test y ≡ b → Among (y ∷ ys) x → (Among ys x → (z : X) × (find test ys ≡ Some z) × Among ys z × (test z ≡ true)) → (z : X) × (cond b (Some y) (find test ys) ≡ Some z) × Among (y ∷ ys) z × (test z ≡ true)
      by true t m more = (y, refl, inl refl, t)
      by false t (inl same) more = absurd (let s = ap test same in cc)
      by false t (inr rest) more = let found = more rest in (found.0, found.1, inr found.2, found.3)

  pub find_is : (test : X → Bool) (xs : List X) (x : X) → find test xs ≡ Some x → Among xs x × (test x ≡ true)
  find_is test [] x e = absurd cc
  find_is test (y ∷ ys) x e = by (test y) refl e (find_is test ys x)
    where
      by : (b : Bool) → test y ≡ b → cond b (Some y) (find test ys) ≡ Some x → (find test ys ≡ Some x → Among ys x × (test x ≡ true)) → Among (y ∷ ys) x × (test x ≡ true)
      by true t e more = let same : y ≡ x = cc in (inl same, ap test (sym same) ∙ t)
      by false t e more = let rest = more e in (inr rest.0, rest.1)

  -- if none passes, none passes together with another test
  pub find_none : (test more : X → Bool) (xs : List X) → find test xs ≡ None → list_any (λ x. test x && more x) xs ≡ false
  find_none test more [] e = refl
  find_none test more (y ∷ ys) e = by (test y) refl e (find_none test more ys)
    where
      by : (b : Bool) → test y ≡ b → cond b (Some y) (find test ys) ≡ None → (find test ys ≡ None → list_any (λ x. test x && more x) ys ≡ false) → ((b && more y) || list_any (λ x. test x && more x) ys) ≡ false
      by true t e rest = absurd cc
      by false t e rest = rest e

module _ {X Y : Type 0} (f : X → Y) where
  pub mapped_some : (o : Option X) (y : Y) → Some y ≡ option_map f o → (x : X) × (o ≡ Some x) × (f x ≡ y)
  mapped_some None y e = absurd cc
  mapped_some (Some x) y e = let same : y ≡ f x = cc in (x, refl, sym same)

  pub mapped_none : (o : Option X) → None ≡ option_map f o → o ≡ None
  mapped_none None e = refl
  mapped_none (Some x) e = absurd cc
