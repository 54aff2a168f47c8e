-- What slots hold, in the order of their numbers, has the same parts as what a map's entries hold, in the order of its keys.
use Rattle.std.proofs.Common.{eqb, append_assoc}
use Rattle.lis_store.proofs.Common.{common_steps, ◌≡◌, refl, sym, ap, ◌∙◌, subst, inl, inr, ℕ, zero, suc, ◌+◌, ◌<◌, ◌≤◌, ◌==◌, true, false, not, cond, List, [], ◌∷◌, ◌++◌, map, Option, Some, None, IsTrue, arith, slice_get, find, flat_map, range_with_len, AllByRecursion, and_parts, not-true, not_from_false, ne_eqb, slice_get_within, get_or_from_slice_get, Among, among_from_contains, contains_from_among, flat_all, and_from, eq-eqb, has_number, are_distinct}
use Rattle.std.specs.List.{IsDistinct}
use Rattle.std.specs.List.Sorted.{IsPermutation}
use Rattle.std.proofs.lemmas.Bool.{or_parts, or_from}
use Rattle.std.proofs.lemmas.List.Concat.{flat_map-append}
use Rattle.std.proofs.lemmas.List.FromFn.{length-map-range_with_len, get_or-map-range_with_len}
use Rattle.std.proofs.lemmas.List.Sorted.{IsPermutation-refl, IsPermutation-trans, IsPermutation-append_comm, IsPermutation-append_left, IsPermutation-append_right, Contains-permutation}
use Rattle.std.proofs.lemmas.Map.Keys.{IsDistinct-IsPermutation}
use Rattle.lis_graph.proofs.Ranges.{among_range}
use Rattle.lis_catalog.proofs.Slots.{turned}
use Rattle.lis_kept.proofs.Filed.{each_once}

-- the k-th slot, if each is given by its number
pub given_at : {X : Type 0} (f : ℕ → X) (n k : ℕ) (x : X) → slice_get (map f (range_with_len 0 n)) k ≡ Some x → (k < n) × (f k ≡ x)
given_at f n k x is =
    let within : k < n = omega (arith, slice_get_within (map f (range_with_len 0 n)) k x is, length-map-range_with_len f 0 n) in
    (within, sym (get_or-map-range_with_len f 0 n k k x within (omega arith)) ∙ get_or_from_slice_get (map f (range_with_len 0 n)) k x x is)

-- ---- lists with the same parts
pub flat_map-flat_map : {A B C : Type 0} (g : B → List C) (f : A → List B) (xs : List A) → flat_map g (flat_map f xs) ≡ flat_map (λ x. flat_map g (f x)) xs
flat_map-flat_map g f [] = refl
flat_map-flat_map g f (x ∷ xs) = flat_map-append g (f x) (flat_map f xs) ∙ ap (λ ys. flat_map g (f x) ++ ys) (flat_map-flat_map g f xs)

pub IsPermutation-same : {X : Type 0} (xs ys : List X) → xs ≡ ys → IsPermutation xs ys
IsPermutation-same xs ys same = subst (IsPermutation xs) same (IsPermutation-refl xs)

pub permuted_among : {X : Type 0} (xs ys : List X) (x : X) → IsPermutation xs ys → Among xs x → Among ys x
permuted_among xs ys x same m = among_from_contains ys x (Contains-permutation xs ys x same (contains_from_among xs x m))

-- the part of one element is inserted after another part
IsPermutation-behind : {X : Type 0} (xs ys zs all : List X) → IsPermutation (xs ++ zs) all → IsPermutation (xs ++ (ys ++ zs)) (ys ++ all)
IsPermutation-behind xs ys zs all same =
    let first = IsPermutation-same (xs ++ (ys ++ zs)) ((xs ++ ys) ++ zs) (sym (append_assoc xs ys zs)) in
    let turned = IsPermutation-append_left zs (xs ++ ys) (ys ++ xs) (IsPermutation-append_comm xs ys) in
    let last = IsPermutation-same ((ys ++ xs) ++ zs) (ys ++ (xs ++ zs)) (append_assoc ys xs zs) in
    let front = IsPermutation-trans (xs ++ (ys ++ zs)) ((xs ++ ys) ++ zs) ((ys ++ xs) ++ zs) first turned in
    let moved = IsPermutation-trans (xs ++ (ys ++ zs)) ((ys ++ xs) ++ zs) (ys ++ (xs ++ zs)) front last in
    IsPermutation-trans (xs ++ (ys ++ zs)) (ys ++ (xs ++ zs)) (ys ++ all) moved (IsPermutation-append_right ys (xs ++ zs) all same)

-- ---- numbers that occur once
eqb_flips : (a b : ℕ) → eqb a b ≡ eqb b a
eqb_flips a b = grind (arith, common_steps, eq-eqb, ne_eqb)

none_alike : (n : ℕ) (ns : List ℕ) → AllByRecursion (λ m. eqb n m ≡ false) ns → has_number ns n ≡ false
none_alike n [] all = refl
none_alike n (m ∷ ms) all = or_from (m == n) (has_number ms n) (turned n m all.0) (none_alike n ms all.1)

to_distinct : (ns : List ℕ) → IsDistinct eqb ns → are_distinct ns ≡ true
unfolding IsDistinct
to_distinct [] apart = refl
to_distinct (n ∷ ns) apart = and_from (not (has_number ns n)) (are_distinct ns) (not_from_false (has_number ns n) (none_alike n ns apart.0)) (to_distinct ns apart.1)

pub distinct_permuted : (ns ms : List ℕ) → IsPermutation ns ms → are_distinct ns ≡ true → are_distinct ms ≡ true
distinct_permuted ns ms same apart = to_distinct ms (IsDistinct-IsPermutation eqb eqb_flips ns ms same (each_once ns apart))

-- ---- one slot more that holds something
slot_more : {X : Type 0} (g h : ℕ → List X) (k : ℕ) → g k ≡ [] → ((n : ℕ) → (k ≡ n → ⊥) → h n ≡ g n) → (a m : ℕ) → a ≤ k → k < a + m
    → IsPermutation (h k ++ flat_map g (range_with_len a m)) (flat_map h (range_with_len a m))
slot_more g h k none same a zero low high = absurd (omega arith)
slot_more g h k none same a (suc m) low high = grind (arith, common_steps, among_range, flat_all, IsPermutation-same, IsPermutation-behind, slot_more g h k none same (a + 1) m)

-- ---- what entries hold, each in its own slot
abbrev pub held : {E X : Type 0} → (E → List X) → Option E → List X
held parts None = []
held parts (Some e) = parts e

module _ {E X : Type 0} (key : E → ℕ) (parts : E → List X) where
  abbrev pub held_at : List E → ℕ → List X
  held_at es n = held parts (find (λ e. key e == n) es)

  none_held : (n : ℕ) (es : List E) → has_number (map key es) n ≡ false → held_at es n ≡ []
  none_held n [] none = refl
  none_held n (e ∷ es) none =
      let tests = or_parts (key e == n) (has_number (map key es) n) none in
      ap (λ b. held parts (cond b (Some e) (find (λ x. key x == n) es))) tests.0 ∙ none_held n es tests.1

  nothing_held : (ns : List ℕ) → flat_map (held_at []) ns ≡ []
  nothing_held [] = refl
  nothing_held (n ∷ ns) = nothing_held ns

  pub slot_order : (m : ℕ) (es : List E) → IsTrue (are_distinct (map key es)) → ((e : E) → Among es e → key e < m)
      → IsPermutation (flat_map parts es) (flat_map (held_at es) (range_with_len 0 m))
  slot_order m [] apart below = IsPermutation-same [] (flat_map (held_at []) (range_with_len 0 m)) (sym (nothing_held (range_with_len 0 m)))
  slot_order m (e ∷ es) apart below =
      let tests = and_parts (not (has_number (map key es) (key e))) (are_distinct (map key es)) apart in
      let none : held_at es (key e) ≡ [] = none_held (key e) es (not-true (has_number (map key es) (key e)) tests.0) in
      let here : held_at (e ∷ es) (key e) ≡ parts e = ap (λ b. held parts (cond b (Some e) (find (λ x. key x == key e) es))) (eq-eqb (key e) (key e) refl) in
      let more = slot_more (held_at es) (held_at (e ∷ es)) (key e) none
      (λ n differ. ap (λ b. held parts (cond b (Some e) (find (λ x. key x == n) es))) (ne_eqb (key e) n differ))
      0 m (omega arith) (omega (arith, below e (inl refl))) in
      let rest = IsPermutation-append_right (parts e) (flat_map parts es) (flat_map (held_at es) (range_with_len 0 m)) (slot_order m es tests.1 (λ x there. below x (inr there))) in
      IsPermutation-trans (parts e ++ flat_map parts es) (parts e ++ flat_map (held_at es) (range_with_len 0 m)) (flat_map (held_at (e ∷ es)) (range_with_len 0 m))
      rest
      (subst (λ xs. IsPermutation (xs ++ flat_map (held_at es) (range_with_len 0 m)) (flat_map (held_at (e ∷ es)) (range_with_len 0 m))) here more)
