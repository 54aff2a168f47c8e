-- Numbers sorted by their names: numbers of the same name are neighbours, the lowest first.
use Rattle.std.proofs.Common.{◌≡◌, ◌⊎◌, ℕ, zero, suc, ◌+◌, ◌<◌, ◌≤◌, ◌==◌, Bool, true, false, cond, if◌then◌else◌, is_some, Option, Some, None, List, [], ◌∷◌, length, get_or, refl, sym, ap, subst, ◌∙◌, inl, inr, arith}
use Rattle.std.specs.declared.cmp.Ordering.{Ordering}
use Rattle.std.specs.declared.cmp.Ordering.TheVariants.{Less, Equal, Greater}
use Rattle.std.specs.Ordering.{is_lt, nat_cmp, ordering_then, ordering_reverse}
use Rattle.std.specs.Cmp.{IsTotalOrder, IsStrictWeakOrder, tied_itself}
use Rattle.std.specs.List.{count_by}
use Rattle.std.specs.List.Sorted.{IsPermutation}
use Rattle.std.proofs.lemmas.Bool.{cases_lt, eq-eqb, eqb-true}
use Rattle.std.proofs.lemmas.Cmp.{nat_cmp_total, on_total, then_total}
use Rattle.std.proofs.lemmas.List.{get_or_past}
use Rattle.std.proofs.lemmas.List.MinMax.{ranks_by}
use Rattle.std.proofs.lemmas.List.Sorted.{sorted_far, sum_by-IsPermutation, length_permutation}
use Rattle.std.proofs.lemmas.List.Sums.{sum_by-cons}
use Rattle.std.proofs.lemmas.Map.Keys.{ge_from_not_lt}
use Rattle.std.proofs.lemmas.Map.Lookups.{CmpEqualImpliesEq}
use Rattle.std.proofs.Math.Arith.{lt_of_le-ne}
use Rattle.lis_graph.specs.Again.{IsAgain, IsFirstAgain}
use Rattle.lis_graph.specs.Inside.{IsUnsorted, named_cmp, RisesByName, IsRepeat, IsLeastRepeat}

-- ---- how often a number is in a list
abbrev pub often : ℕ → List ℕ → ℕ
often n xs = count_by (λ m. m == n) xs

pub often-cons : (n x : ℕ) (xs : List ℕ) → often n (x ∷ xs) ≡ cond (x == n) 1 0 + often n xs
often-cons n x xs = sum_by-cons (λ m. cond (m == n) 1 0) x xs

pub often_same : (n x : ℕ) (xs : List ℕ) → x ≡ n → often n (x ∷ xs) ≡ 1 + often n xs
often_same n x xs same = often-cons n x xs ∙ ap (λ b. cond b 1 0 + often n xs) (eq-eqb x n same)

often_at : (k : ℕ) (xs : List ℕ) → k < length xs → 1 ≤ often (get_or xs k 0) xs
often_at k [] lt = absurd (omega (arith, lt))
often_at zero (x ∷ xs) lt = omega (arith, often_same x x xs refl)
often_at (suc k) (x ∷ xs) lt = omega (arith, often-cons (get_or xs k 0) x xs, often_at k xs (omega (arith, lt)))

index_of : (n : ℕ) (xs : List ℕ) → 1 ≤ often n xs → (k : ℕ) × (k < length xs) × (get_or xs k 0 ≡ n)
index_of n [] h = absurd (omega (arith, h))
index_of n (x ∷ xs) h = by (x == n) refl (index_of n xs)
  where
    by : (b : Bool) → (x == n) ≡ b → (1 ≤ often n xs → (k : ℕ) × (k < length xs) × (get_or xs k 0 ≡ n)) → (k : ℕ) × (k < length (x ∷ xs)) × (get_or (x ∷ xs) k 0 ≡ n)
    by true e more = (zero, omega arith, eqb-true x n e)
    by false e more =
        let rest = more (omega (arith, h, often-cons n x xs, ap {B = ℕ} (λ b. cond b 1 0) e)) in
        (suc rest.0, omega (arith, rest.1), rest.2)

-- a number at two neighbouring indexes is there twice
twice : (k : ℕ) (xs : List ℕ) → suc k < length xs → get_or xs k 0 ≡ get_or xs (suc k) 0 → 2 ≤ often (get_or xs k 0) xs
twice k [] lt same = absurd (omega (arith, lt))
twice zero (x ∷ []) lt same = absurd (omega (arith, lt))
twice zero (x ∷ y ∷ xs) lt same = omega (arith, often_same x x (y ∷ xs) refl, often_same x y xs (sym same))
twice (suc k) (x ∷ xs) lt same = omega (arith, often-cons (get_or xs k 0) x xs, twice k xs (omega (arith, lt)) same)

is_one : {X : Type 0} (count : ℕ) (o : Option X) → count ≡ (if is_some o then 1 else 0) → 1 ≤ count → (x : X) × (o ≡ Some x)
is_one count None e le = absurd (omega (arith, e, le))
is_one count (Some x) e le = (x, refl)

module _ {X : Type 0} (most : ℕ) (items : List (Option X)) (order : List ℕ) (room : ℕ) (h : IsUnsorted most items order room) where
  -- a number in the order has an item, and a number that has one is in the order
  pub holds : (k : ℕ) → k < length order → (x : X) × (get_or items (get_or order k 0) None ≡ Some x)
  holds k lt = is_one (often (get_or order k 0) order) (get_or items (get_or order k 0) None) (h.once (get_or order k 0)) (often_at k order lt)

  pub stands : (n : ℕ) (x : X) → get_or items n None ≡ Some x → (k : ℕ) × (k < length order) × (get_or order k 0 ≡ n)
  stands n x is = index_of n order (omega (arith, h.once n, ap {B = ℕ} (λ (o : Option X). if is_some o then 1 else 0) is))

  -- and is below the length
  pub within : (k : ℕ) → k < length order → get_or order k 0 < length items
  within k lt = by (cases_lt (get_or order k 0) (length items))
    where
      by : (get_or order k 0 < length items) ⊎ (length items ≤ get_or order k 0) → get_or order k 0 < length items
      by (inl less) = less
      by (inr le) = absurd (let some = (holds k lt).1 in let past = get_or_past items (get_or order k 0) None le in cc)

  pub at_most_once : (n : ℕ) → often n order ≤ 1
  at_most_once n = by (is_some (get_or items n None)) (h.once n)
    where
      by : (b : Bool) → often n order ≡ cond b 1 0 → often n order ≤ 1
      by true e = omega (arith, e)
      by false e = omega (arith, e)

  -- the numbers in another order
  pub moved : (new : List ℕ) → IsPermutation order new → (more : ℕ) → room ≤ more → IsUnsorted most items new more
  moved new same more wide = record {
    limit = h.limit;
    once = λ n. sum_by-IsPermutation (λ m. cond (m == n) 1 0) order new same ∙ h.once n;
    counted = omega (arith, h.counted, length_permutation order new same);
    has_room = omega (arith, h.has_room, wide);
  }

-- ---- the order of numbers
not_first : (c o : Ordering) → is_lt (ordering_then c o) ≡ false → c ≡ Less → ⊥
not_first Less o h e = cc
not_first Equal o h e = cc
not_first Greater o h e = cc

not_second : (c o : Ordering) → is_lt (ordering_then c o) ≡ false → c ≡ Equal → is_lt o ≡ false
not_second Less o h e = absurd cc
not_second Equal o h e = h
not_second Greater o h e = absurd cc

module _ {N : Type 0} (cmp : N → N → Ordering) (total : IsTotalOrder cmp) (name : ℕ → N) where
  pub ranked : IsStrictWeakOrder (λ m n. is_lt (named_cmp cmp name m n))
  ranked = ranks_by (then_total (on_total name total) nat_cmp_total) (λ n. n)

  module _ (exact : CmpEqualImpliesEq cmp) (order : List ℕ) (ordered : RisesByName cmp name order) where
    -- the number at an index, and its name
    abbrev at : ℕ → ℕ
    at k = get_or order k 0

    abbrev named : ℕ → N
    named k = name (get_or order k 0)

    far : (i j : ℕ) → i ≤ j → j < length order → is_lt (named_cmp cmp name (at j) (at i)) ≡ false
    far i j le lt = sorted_far (λ m n. is_lt (named_cmp cmp name m n)) ranked order ordered i j 0 le lt

    not_less : (i j : ℕ) → i ≤ j → j < length order → cmp (named j) (named i) ≡ Less → ⊥
    not_less i j le lt = not_first (cmp (named j) (named i)) (nat_cmp (at j) (at i)) (far i j le lt)

    turned : (m n : N) → cmp m n ≡ Greater → cmp n m ≡ Less
    turned m n greater = total.antisymm n m ∙ ap ordering_reverse greater

    -- of two numbers of the same name the lower one is first
    low_first : (i j : ℕ) → i ≤ j → j < length order → named j ≡ named i → at i ≤ at j
    low_first i j le lt same =
        let tied = let self = tied_itself total (named i) in subst (λ n. cmp n (named i) ≡ Equal) (sym same) self in
        ge_from_not_lt (at j) (at i) (not_second (cmp (named j) (named i)) (nat_cmp (at j) (at i)) (far i j le lt) tied)

    -- and none of another name between them
    repeat_before : (i j : ℕ) → i ≤ j → j + 1 < length order → named (j + 1) ≡ named i → IsRepeat name order j
    repeat_before i j le lt same = by (cmp (named j) (named i)) refl
      where
        by : (r : Ordering) → cmp (named j) (named i) ≡ r → named (j + 1) ≡ named j
        by Less e = absurd (not_less i j le (omega (arith, lt)) e)
        by Equal e = same ∙ sym (exact (named j) (named i) e)
        by Greater e = absurd (not_less j (j + 1) (omega arith) lt (subst (λ n. cmp n (named j) ≡ Less) (sym same) (turned (named j) (named i) e)))

    -- if no name comes again, the names rise
    pub rise : IsLeastRepeat name order (length order) None → (i j : ℕ) → i < j → j < length order → cmp (named i) (named j) ≡ Less
    rise none i zero less lt = absurd (omega (arith, less))
    rise none i (suc j) less lt = by (cmp (named i) (named (suc j))) refl
      where
        next : suc j ≡ j + 1
        next = omega arith

        by : (r : Ordering) → cmp (named i) (named (suc j)) ≡ r → cmp (named i) (named (suc j)) ≡ Less
        by Less e = e
        by Equal e = absurd (none j (omega (arith, lt)) (repeat_before i j (omega (arith, less)) (omega (arith, lt)) (sym (ap named next) ∙ sym (exact (named i) (named (suc j)) e))))
        by Greater e = absurd (not_less i (suc j) (omega (arith, less)) lt (turned (named i) (named (suc j)) e))

    -- ---- the first number whose name a lower one has
    module _ {X : Type 0} (of : X → N) (most : ℕ) (items : List (Option X)) (room : ℕ) (h : IsUnsorted most items order room) (named_so : (n : ℕ) (x : X) → get_or items n None ≡ Some x → name n ≡ of x) where
      again_repeats : (n : ℕ) → IsAgain of items n → (k : ℕ) × (k + 1 < length order) × IsRepeat name order k × (at (k + 1) ≡ n)
      again_repeats n again = by j.0 j.1 j.2 (cases_lt i.0 j.0)
        where
          m : ℕ
          m = again.0

          i : (k : ℕ) × (k < length order) × (at k ≡ m)
          i = stands most items order room h m again.1 again.4

          j : (k : ℕ) × (k < length order) × (at k ≡ n)
          j = stands most items order room h n again.2 again.5

          same : name m ≡ name n
          same = named_so m again.1 again.4 ∙ (again.6 ∙ sym (named_so n again.2 again.5))

          by : (k : ℕ) → k < length order → at k ≡ n → (i.0 < k) ⊎ (k ≤ i.0) → (k : ℕ) × (k + 1 < length order) × IsRepeat name order k × (at (k + 1) ≡ n)
          by k lt here (inr le) = absurd (omega (arith, again.3, here, i.2, low_first k i.0 le i.1 (ap name i.2 ∙ (same ∙ sym (ap name here)))))
          by zero lt here (inl less) = absurd (omega (arith, less))
          by (suc k) lt here (inl less) =
              let next : suc k ≡ k + 1 = omega arith in
              let there : at (k + 1) ≡ n = ap at (sym next) ∙ here in
              let more : k + 1 < length order = omega (arith, lt) in
              (k, more, repeat_before i.0 k (omega (arith, less)) more (ap name there ∙ (sym same ∙ sym (ap name i.2))), there)

      repeat_again : (k : ℕ) → k + 1 < length order → IsRepeat name order k → IsAgain of items (at (k + 1))
      repeat_again k lt same =
          let first = holds most items order room h k (omega (arith, lt)) in
          let second = holds most items order room h (k + 1) lt in
          let le = low_first k (k + 1) (omega arith) lt same in
          let one = at_most_once most items order room h (at k) in
          let next : k + 1 ≡ suc k = omega arith in
          let differ : at k ≡ at (k + 1) → ⊥ = λ tied. omega (arith, twice k order (omega (arith, lt)) (tied ∙ ap at next), one) in (
            at k,
            first.0,
            second.0,
            lt_of_le-ne le differ,
            first.1,
            second.1,
            sym (named_so (at k) first.0 first.1) ∙ (sym same ∙ named_so (at (k + 1)) second.0 second.1),
          )

      pub first_again : (n : ℕ) → IsLeastRepeat name order (length order) (Some n) → IsFirstAgain of items n
      first_again n least = record {
        again = subst (IsAgain of items) least.0.3 (repeat_again least.0.0 least.0.1 least.0.2);
        first = λ m less again. let at = again_repeats m again in omega (arith, less, at.3, least.1 at.0 at.1 at.2);
      }
