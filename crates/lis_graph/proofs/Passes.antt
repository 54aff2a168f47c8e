-- A pass over numbers in an order: the name of each is compared with the name of the one before it.
use Rattle.std.proofs.Common.{◌≡◌, ◌⊎◌, ℕ, zero, suc, ◌+◌, ◌<◌, ◌≤◌, min, Bool, false, Option, Some, None, unwrap_or, List, get_or, IsTrue, refl, sym, ap, ◌∙◌, inl, inr, arith}
use Rattle.std.proofs.lemmas.Bool.{cases_lt}
use Rattle.lis_graph.specs.Inside.{IsRepeat, IsLeastRepeat}

-- what the pass keeps after `i` numbers: the last name, before the first one `none`, and the least number so far whose name comes again
pub record IsPassed {N : Type 0} (name : ℕ → N) (is_name : N → Bool) (none : N) (order : List ℕ) (i : ℕ) (before : N) (first : Option ℕ) : Type 0 where
  pub start : i ≡ 0 → before ≡ none
  pub last : (k : ℕ) → k + 1 ≡ i → before ≡ name (get_or order k 0)
  pub forms : (k : ℕ) → k < i → IsTrue (is_name (name (get_or order k 0)))
  pub least : IsLeastRepeat name order i first

module _ {N : Type 0} (name : ℕ → N) (order : List ℕ) (i : ℕ) where
  -- the last index, or one before it
  last_or : (k : ℕ) → k + 1 < i + 1 → (k + 1 < i) ⊎ (k + 1 ≡ i)
  last_or k lt = by (cases_lt (k + 1) i)
    where
      by : (k + 1 < i) ⊎ (i ≤ k + 1) → (k + 1 < i) ⊎ (k + 1 ≡ i)
      by (inl less) = inl less
      by (inr le) = inr (omega (arith, le, lt))

  least_other : (first : Option ℕ) → IsLeastRepeat name order i first → ((k : ℕ) → k + 1 ≡ i → IsRepeat name order k → ⊥) → IsLeastRepeat name order (i + 1) first
  least_other None none other = λ k lt same. by k same (last_or k lt)
    where
      by : (k : ℕ) → IsRepeat name order k → (k + 1 < i) ⊎ (k + 1 ≡ i) → ⊥
      by k same (inl less) = none k less same
      by k same (inr at) = other k at same
  least_other (Some n) old other = ((old.0.0, omega (arith, old.0.1), old.0.2, old.0.3), λ k lt same. by k same (last_or k lt))
    where
      by : (k : ℕ) → IsRepeat name order k → (k + 1 < i) ⊎ (k + 1 ≡ i) → n ≤ get_or order (k + 1) 0
      by k same (inl less) = old.1 k less same
      by k same (inr at) = absurd (other k at same)

  module _ (j : ℕ) (at : j + 1 ≡ i) (same : IsRepeat name order j) where
    there : (k : ℕ) → k + 1 ≡ i → get_or order (k + 1) 0 ≡ get_or order i 0
    there k here = ap (λ p. get_or order p 0) here

    least_same : (first : Option ℕ) → IsLeastRepeat name order i first → IsLeastRepeat name order (i + 1) (Some (min (unwrap_or first (get_or order i 0)) (get_or order i 0)))
    least_same None none = ((j, omega (arith, at), same, omega (arith, there j at)), λ k lt again. by k again (last_or k lt))
      where
        by : (k : ℕ) → IsRepeat name order k → (k + 1 < i) ⊎ (k + 1 ≡ i) → min (get_or order i 0) (get_or order i 0) ≤ get_or order (k + 1) 0
        by k again (inl less) = absurd (none k less again)
        by k again (inr here) = omega (arith, there k here)
    least_same (Some n) old = (found (cases_lt (get_or order i 0) n), λ k lt again. by k again (last_or k lt))
      where
        found : (get_or order i 0 < n) ⊎ (n ≤ get_or order i 0) → (k : ℕ) × (k + 1 < i + 1) × IsRepeat name order k × (get_or order (k + 1) 0 ≡ min n (get_or order i 0))
        found (inl less) = (j, omega (arith, at), same, omega (arith, there j at, less))
        found (inr le) = (old.0.0, omega (arith, old.0.1), old.0.2, omega (arith, old.0.3, le))

        by : (k : ℕ) → IsRepeat name order k → (k + 1 < i) ⊎ (k + 1 ≡ i) → min n (get_or order i 0) ≤ get_or order (k + 1) 0
        by k again (inl less) = omega (arith, old.1 k less again)
        by k again (inr here) = omega (arith, there k here)

-- ---- one more number
module _ {N : Type 0} (name : ℕ → N) (is_name : N → Bool) (none : N) (not_name : is_name none ≡ false)
    (order : List ℕ) (i : ℕ) (before : N) (first : Option ℕ) (h : IsPassed name is_name none order i before first) (form : IsTrue (is_name (name (get_or order i 0)))) where
  abbrev this : N
  this = name (get_or order i 0)

  one_more : (now : Option ℕ) → IsLeastRepeat name order (i + 1) now → IsPassed name is_name none order (i + 1) this now
  one_more now least = record {
    start = λ at. absurd (omega (arith, at));
    last = λ k at. let same : i ≡ k = omega (arith, at) in ap (λ p. name (get_or order p 0)) same;
    forms = λ k lt. by k (cases_lt k i) lt;
    least = least;
  }
    where
      by : (k : ℕ) → (k < i) ⊎ (i ≤ k) → k < i + 1 → IsTrue (is_name (name (get_or order k 0)))
      by k (inl less) lt = h.forms k less
      by k (inr le) lt = let same : k ≡ i = omega (arith, le, lt) in ap (λ p. is_name (name (get_or order p 0))) same ∙ form

  -- the number before it has the same name
  pub passed_same : this ≡ before → IsPassed name is_name none order (i + 1) this (Some (min (unwrap_or first (get_or order i 0)) (get_or order i 0)))
  passed_same same = one_more (Some (min (unwrap_or first (get_or order i 0)) (get_or order i 0))) (by i refl)
    where
      by : (p : ℕ) → p ≡ i → IsLeastRepeat name order (i + 1) (Some (min (unwrap_or first (get_or order i 0)) (get_or order i 0)))
      by zero at = absurd (let no : is_name this ≡ false = ap is_name (same ∙ h.start (sym at)) ∙ not_name in cc)
      by (suc j) at =
          let here : j + 1 ≡ i = omega (arith, at) in
          least_same name order i j here (ap (λ p. name (get_or order p 0)) here ∙ (same ∙ h.last j here)) first h.least

  pub passed_other : (this ≡ before → ⊥) → IsPassed name is_name none order (i + 1) this first
  passed_other differ = one_more first (least_other name order i first h.least (λ k at same. differ (sym (ap (λ p. name (get_or order p 0)) at) ∙ (same ∙ sym (h.last k at)))))
