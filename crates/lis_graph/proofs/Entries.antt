-- The entries of numbers in an order: each is found by its number, and they rise if the names of the numbers do.
use Rattle.std.proofs.Common.{◌≡◌, ℕ, suc, ◌<◌, ◌≤◌, ◌==◌, ◌||◌, Bool, true, false, cond, is_some, Option, Some, None, List, [], ◌∷◌, length, get_or, map, refl, sym, ap, ap₂, ◌∙◌, arith}
use Rattle.std.specs.declared.cmp.Ordering.{Ordering}
use Rattle.std.specs.declared.cmp.Ordering.TheVariants.{Less}
use Rattle.std.specs.List.{find, list_any, list_all}
use Rattle.std.specs.Option.{option_map}
use Rattle.std.specs.Ordering.{is_lt}
use Rattle.std.proofs.lemmas.Bool.{and_from, eqb-true}
use Rattle.std.proofs.lemmas.List.Folds.{list_all-map}
use Rattle.std.proofs.lemmas.List.Recursion.{and_from_places}
use Rattle.lis_graph.specs.Graph.{is_rising}
use Rattle.lis_graph.specs.Inside.{IsUnsorted}
use Rattle.lis_graph.proofs.Repeats.{often, often-cons, often_same}

-- a number that is nowhere in the list
pub none_from : (n : ℕ) (xs : List ℕ) → often n xs ≡ 0 → list_any (λ m. m == n) xs ≡ false
none_from n [] none = refl
none_from n (x ∷ xs) none = by (x == n) refl (none_from n xs)
  where
    by : (b : Bool) → (x == n) ≡ b → (often n xs ≡ 0 → list_any (λ m. m == n) xs ≡ false) → (b || list_any (λ m. m == n) xs) ≡ false
    by true e more = absurd (omega (arith, none, often_same n x xs (eqb-true x n e)))
    by false e more = more (omega (arith, none, often-cons n x xs))

module _ {E : Type 0} (entry : ℕ → E) where
  -- a test that each entry passes
  pub all_pass : (test : E → Bool) (order : List ℕ) → ((k : ℕ) → k < length order → test (entry (get_or order k 0)) ≡ true) → list_all test (map entry order) ≡ true
  all_pass test order each = list_all-map test entry order ∙ and_from_places (list_all (λ n. test (entry n))) (λ n. test (entry n)) refl (λ n ns. refl) order 0 each

  -- names that rise from index to index
  pub rising_from : {N : Type 0} (cmp : N → N → Ordering) (name : E → N) (order : List ℕ)
      → ((i j : ℕ) → i < j → j < length order → cmp (name (entry (get_or order i 0))) (name (entry (get_or order j 0))) ≡ Less)
      → is_rising cmp (map name (map entry order)) ≡ true
  rising_from cmp name [] rise = refl
  rising_from cmp name (n ∷ ns) rise =
      let above = list_all-map (λ other. is_lt (cmp (name (entry n)) other)) name (map entry ns) ∙ all_pass (λ e. is_lt (cmp (name (entry n)) (name e))) ns (λ k lt. ap is_lt (rise 0 (suc k) (omega arith) (omega (arith, lt)))) in
      and_from _ _ above (rising_from cmp name ns (λ i j less lt. rise (suc i) (suc j) (omega (arith, less)) (omega (arith, lt))))

  module _ (key : E → ℕ) (keyed : (n : ℕ) → key (entry n) ≡ n) where
    pub keys : (order : List ℕ) → map key (map entry order) ≡ order
    keys [] = refl
    keys (n ∷ ns) = ap₂ (λ m ms. m ∷ ms) (keyed n) (keys ns)

    found : (n : ℕ) (order : List ℕ) → 1 ≤ often n order → find (λ e. key e == n) (map entry order) ≡ Some (entry n)
    found n [] some = absurd (omega (arith, some))
    found n (x ∷ xs) some = ap (λ m. cond (m == n) (Some (entry x)) (find (λ e. key e == n) (map entry xs))) (keyed x) ∙ by (x == n) refl (found n xs)
      where
        by : (b : Bool) → (x == n) ≡ b → (1 ≤ often n xs → find (λ e. key e == n) (map entry xs) ≡ Some (entry n)) → cond b (Some (entry x)) (find (λ e. key e == n) (map entry xs)) ≡ Some (entry n)
        by true e more = ap (λ m. Some (entry m)) (eqb-true x n e)
        by false e more = more (omega (arith, some, often-cons n x xs, ap {B = ℕ} (λ b. cond b 1 0) e))

    not_found : (n : ℕ) (order : List ℕ) → often n order ≡ 0 → find (λ e. key e == n) (map entry order) ≡ None
    not_found n [] none = refl
    not_found n (x ∷ xs) none = ap (λ m. cond (m == n) (Some (entry x)) (find (λ e. key e == n) (map entry xs))) (keyed x) ∙ by (x == n) refl (not_found n xs)
      where
        by : (b : Bool) → (x == n) ≡ b → (often n xs ≡ 0 → find (λ e. key e == n) (map entry xs) ≡ None) → cond b (Some (entry x)) (find (λ e. key e == n) (map entry xs)) ≡ None
        by true e more = absurd (omega (arith, none, often_same n x xs (eqb-true x n e)))
        by false e more = more (omega (arith, none, often-cons n x xs))

    -- the item of a number is the value of the entry that is found
    module _ {X : Type 0} (value : E → X) (most : ℕ) (items : List (Option X)) (order : List ℕ) (room : ℕ) (h : IsUnsorted most items order room)
        (valued : (n : ℕ) (x : X) → get_or items n None ≡ Some x → value (entry n) ≡ x) where
      pub told : (n : ℕ) → get_or items n None ≡ option_map value (find (λ e. key e == n) (map entry order))
      told n = by (get_or items n None) refl
        where
          by : (o : Option X) → get_or items n None ≡ o → o ≡ option_map value (find (λ e. key e == n) (map entry order))
          by None is = sym (ap (option_map value) (not_found n order (h.once n ∙ ap {B = ℕ} (λ (o : Option X). cond (is_some o) 1 0) is)))
          by (Some x) is =
              let there = found n order (omega (arith, h.once n, ap {B = ℕ} (λ (o : Option X). cond (is_some o) 1 0) is)) in
              sym (ap (option_map value) there ∙ ap Some (valued n x is))
