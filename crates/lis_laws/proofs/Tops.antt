-- An order that is transitive and not reflexive leads from each element to one that has none of a list above it.
use Rattle.std.proofs.Common.{◌≡◌, ◌⊎◌, Bool, true, false, ◌||◌, List, [], ◌∷◌, refl, subst, ◌∙◌, ap, inl, inr}
use Rattle.std.specs.List.{list_any}

module _ {A : Type 0} (above : A → A → Bool) (irreflexive : (a : A) → above a a ≡ false)
    (transitive : (a b c : A) → above a b ≡ true → above b c ≡ true → above a c ≡ true) where
  -- an element at or above p with none of xs above it
  pub record Top (xs : List A) (p : A) : Type 0 where
    pub top : A
    pub from : (p ≡ top) ⊎ (above p top ≡ true)
    pub none : list_any (above top) xs ≡ false

  -- x is above p, and what was found for x has neither x nor any of xs above it
  joined : (x : A) (xs : List A) (p : A) → above p x ≡ true → Top xs x → Top (x ∷ xs) p
  joined x xs p up t = by t.from
    where
      reached : (x ≡ t.top) ⊎ (above x t.top ≡ true) → above p t.top ≡ true
      reached (inl same) = subst (λ k. above p k ≡ true) same up
      reached (inr more) = transitive p x t.top up more

      not_back : (x ≡ t.top) ⊎ (above x t.top ≡ true) → above t.top x ≡ false
      not_back (inl same) = subst (λ k. above k x ≡ false) same (irreflexive x)
      not_back (inr more) = back (above t.top x) refl
        where
          back : (b : Bool) → above t.top x ≡ b → b ≡ false
          back false e = refl
          back true e = absurd (let loop = transitive x t.top x more e in let level = irreflexive x in cc)

      by : (x ≡ t.top) ⊎ (above x t.top ≡ true) → Top (x ∷ xs) p
      by way = record { top = t.top; from = inr (reached way); none = ap (λ b. b || list_any (above t.top) xs) (not_back way) ∙ t.none }

  -- x is not above p, and so not above what is at or above p
  passed : (x : A) (xs : List A) (p : A) → above p x ≡ false → Top xs p → Top (x ∷ xs) p
  passed x xs p e t = record { top = t.top; from = t.from; none = ap (λ b. b || list_any (above t.top) xs) (still t.from) ∙ t.none }
    where
      still : (p ≡ t.top) ⊎ (above p t.top ≡ true) → above t.top x ≡ false
      still (inl same) = subst (λ k. above k x ≡ false) same e
      still (inr more) = back (above t.top x) refl
        where
          back : (b : Bool) → above t.top x ≡ b → b ≡ false
          back false h = refl
          back true h = absurd (let loop = transitive p t.top x more h in cc)

  pub topmost : (xs : List A) (p : A) → Top xs p
  topmost [] p = record { top = p; from = inl refl; none = refl }
  topmost (x ∷ xs) p = by (above p x) refl (topmost xs x) (topmost xs p)
    where
      by : (b : Bool) → above p x ≡ b → Top xs x → Top xs p → Top (x ∷ xs) p
      by true e up stay = joined x xs p e up
      by false e up stay = passed x xs p e stay
