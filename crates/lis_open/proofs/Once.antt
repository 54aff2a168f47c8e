-- Lists without repeats.
use Rattle.std.proofs.Common.{rules}
use Rattle.std.proofs.Common.{add-one, drop-cons, Ordering, is_lt}
use Rattle.lis_open.proofs.Common.{◌≡◌, refl, sym, ap, ap₂, subst, inl, inr, ℕ, ◌+◌, zero, suc, ◌<◌, ◌≤◌, true, ◌&&◌, List, [], ◌∷◌, length, map, take, arith, sum, length-append, ◌⊎◌, ◌∙◌, nat_lt, Bool, false, not, ◌||◌, ◌++◌, get_or, set, drop, length-set, get_or-set_other, slice_get, Some, ⊎_elim, flat_map, eqb-true, ltb-true, list_all, insert_key, Among, among_from_any, are_distinct, cases_lt, among_left, is_taken, marked, are_free, are_below, among_from_number, IsStrictlySortedBy, slice_get_within, Slots, word_cmp, file_cmp, among_place, AreSlots, AllApart, all_among, and_parts, and_from, both_ways, false_from_ne_true, get_or_past, has_number, not_true, slice_get-get_or, flat_map_among, File, cases_eq}
use Rattle.std.proofs.lemmas.List.Sums.{sum_by-cons}
use Rattle.std.proofs.lemmas.Map.Steps.{length-le_from_distinct_below}
use Rattle.lis_graph.specs.Graph.{is_rising, with_more}
use Rattle.lis_laws.proofs.Counts.{insert_key_le}
use Rattle.lis_kept.proofs.Filed.{each_once}
use Rattle.std.proofs.lemmas.Bool.{not_from_false}
use Rattle.lis_content.proofs.Numbers.{length-marked}
use Rattle.lis_store.proofs.Marks.{taken_after}
use Rattle.lis_kept.proofs.Filing.{number_from_among, map_insert_key}
use Rattle.std.specs.Cmp.{IsTotalOrder}
use Rattle.std.proofs.lemmas.Map.Lookups.{CmpEqualImpliesEq}
use Rattle.lis_graph.proofs.Members.{among_right, among_insert_key, insert_key_old, insert_key_new, with_more_old}
use Rattle.lis_graph.proofs.Sets.{sorted_nil, sorted_insert_key, members_le}
use Rattle.lis_model.specs.Sets.{with_words}
use Rattle.lis_open.specs.Checks.{IsSlot}

-- ---- distinct numbers below a bound
pub few_below : (ns : List ℕ) (end : ℕ) → are_distinct ns ≡ true → ((n : ℕ) → Among ns n → n < end) → length ns ≤ end
few_below ns end distinct below = search (rules, length-le_from_distinct_below, each_once, among_from_any, eqb-true)

-- ---- a set has at most as many members as were put into it
pub more_le : {K : Type 0} (cmp : K → K → Ordering) (xs more : List K) → length (with_more cmp xs more) ≤ length xs + length more
more_le cmp xs [] = omega arith
more_le cmp xs (m ∷ more) = let rest = more_le cmp (insert_key cmp xs m) more in omega (arith, rest, insert_key_le cmp xs m)

-- ---- one number and the others
pub each_number : (P : ℕ → Type 0) (k : ℕ) → P k → ((n : ℕ) → (n ≡ k → ⊥) → P n) → (n : ℕ) → P n
each_number P k here there n = ⊎_elim (λ same. subst P (sym same) here) (there n) (cases_eq n k)

-- ---- sums
pub sum_within : {X : Type 0} (count : X → ℕ) (numbers : X → List ℕ) (xs : List X) → ((x : X) → Among xs x → count x ≤ length (numbers x)) → sum (map count xs) ≤ length (flat_map numbers xs)
sum_within count numbers [] each = omega arith
sum_within count numbers (x ∷ xs) each =
    let rest = sum_within count numbers xs (λ y m. each y (inr m)) in
    omega (arith, rest, each x (inl refl), sum_by-cons (λ n. n) (count x) (map count xs), length-append (numbers x) (flat_map numbers xs))

-- ---- lists that rise by a key
pub rising_map : {X Y Z : Type 0} (cmp : Y → Y → Ordering) (other : Z → Z → Ordering) (f : X → Y) (g : X → Z) (xs : List X) → ((a b : X) → cmp (f a) (f b) ≡ other (g a) (g b)) → is_rising cmp (map f xs) ≡ is_rising other (map g xs)
rising_map cmp other f g [] same = refl
rising_map cmp other f g (x ∷ xs) same = ap₂ (λ a b. a && b) (all xs) (rising_map cmp other f g xs same)
  where
    all : (ys : List _) → list_all (λ y. is_lt (cmp (f x) y)) (map f ys) ≡ list_all (λ z. is_lt (other (g x) z)) (map g ys)
    all [] = refl
    all (y ∷ ys) = ap₂ (λ a b. a && b) (ap is_lt (same x y)) (all ys)

-- ---- lists of distinct numbers, and blocks that are taken
-- ---- distinct numbers
pub apart_first : (n : ℕ) (ns : List ℕ) → are_distinct (n ∷ ns) ≡ true → (Among ns n → ⊥) × (are_distinct ns ≡ true)
apart_first n ns distinct = search (rules, and_parts, both_ways, not_true, number_from_among)

distinct_front : (ms ns : List ℕ) → are_distinct (ms ++ ns) ≡ true → are_distinct ms ≡ true
distinct_front [] ns distinct = refl
distinct_front (m ∷ ms) ns distinct =
    let parts = apart_first m (ms ++ ns) distinct in
    and_from (not (has_number ms m)) (are_distinct ms)
    (not_from_false (has_number ms m) (false_from_ne_true (has_number ms m) (λ has. parts.0 (among_left ms ns m (among_from_number ms m has)))))
    (distinct_front ms ns parts.1)

distinct_behind : (ms ns : List ℕ) → are_distinct (ms ++ ns) ≡ true → are_distinct ns ≡ true
distinct_behind [] ns distinct = distinct
distinct_behind (m ∷ ms) ns distinct = distinct_behind ms ns (apart_first m (ms ++ ns) distinct).1

-- and so the numbers of a piece of such a list are distinct
pub distinct_piece : {X : Type 0} (piece : X → List ℕ) (xs : List X) (x : X) → Among xs x → are_distinct (flat_map piece xs) ≡ true → are_distinct (piece x) ≡ true
distinct_piece piece [] x m distinct = absurd m
distinct_piece piece (y ∷ ys) x (inl same) distinct = subst (λ z. are_distinct (piece z) ≡ true) same (distinct_front (piece y) (flat_map piece ys) distinct)
distinct_piece piece (y ∷ ys) x (inr m) distinct = distinct_piece piece ys x m (distinct_behind (piece y) (flat_map piece ys) distinct)

-- ---- blocks that are taken
pub is_taken-marked : (taken : List Bool) (ns : List ℕ) (n : ℕ) → are_below (length taken) ns ≡ true → is_taken (marked taken ns) n ≡ (has_number ns n || is_taken taken n)
is_taken-marked taken ns n below = ⊎_elim (taken_after taken ns n) (λ past.
    let none = false_from_ne_true (has_number ns n) (λ has.
    let lt = ltb-true n (length taken) (all_among (λ m. nat_lt m (length taken)) ns n below (among_from_number ns n has)) in
    omega (arith, lt, past)) in
    get_or_past (marked taken ns) n false (omega (arith, past, length-marked taken ns)) ∙ sym (ap₂ (λ a b. a || b) none (get_or_past taken n false past)))
    (cases_lt n (length taken))

free_still : (taken : List Bool) (ns : List ℕ) (n : ℕ) → are_free taken ns ≡ true → (Among ns n → ⊥) → are_free (set taken n true) ns ≡ true
free_still taken [] n free none = refl
free_still taken (b ∷ ns) n free none =
    let parts = and_parts (nat_lt b (length taken) && not (is_taken taken b)) (are_free taken ns) free in
    let first = and_parts (nat_lt b (length taken)) (not (is_taken taken b)) parts.0 in
    and_from (nat_lt b (length (set taken n true)) && not (is_taken (set taken n true) b)) (are_free (set taken n true) ns)
    (and_from (nat_lt b (length (set taken n true))) (not (is_taken (set taken n true) b))
    (ap (nat_lt b) (length-set taken n true) ∙ first.0)
    (ap not (get_or-set_other taken n b true false (λ e. none (inl e))) ∙ first.1))
    (free_still taken ns n parts.1 (λ m. none (inr m)))

-- blocks that are marked one by one: those of `left` remain to be marked
pub record Marking (start now : List Bool) (all left : List ℕ) : Type 0 where
  pub marks : marked now left ≡ marked start all
  pub free : are_free now left ≡ true
  pub distinct : are_distinct left ≡ true

module _ (start now : List Bool) (ns : List ℕ) (k : ℕ) (lt : k < length ns) (marking : Marking start now ns (drop k ns)) where
  at_first : Marking start now ns (get_or ns k 0 ∷ drop (k + 1) ns)
  at_first = subst (λ left. Marking start now ns left) (drop-cons ns k 0 lt ∙ ap (λ i. get_or ns k 0 ∷ drop i ns) (sym (add-one k))) marking

  pub next_free : (get_or ns k 0 < length now) × (is_taken now (get_or ns k 0) ≡ false)
  next_free = search (rules, and_parts, at_first, ltb-true, not_true)

  pub marking_on : (after : List Bool) → after ≡ set now (get_or ns k 0) true → Marking start after ns (drop (k + 1) ns)
  marking_on after is = search (rules, and_parts, at_first, apart_first, free_still)

-- ---- lists without repeats
-- ---- indexes of a list
-- what is in a prefix is in the list, at the same index
pub taken_place : {X : Type 0} (n : ℕ) (xs : List X) (j : ℕ) (x : X) → slice_get (take n xs) j ≡ Some x → (j < n) × (slice_get xs j ≡ Some x)
taken_place zero xs j x is = absurd cc
taken_place (suc n) [] j x is = absurd cc
taken_place (suc n) (y ∷ ys) zero x is = (omega arith, is)
taken_place (suc n) (y ∷ ys) (suc j) x is = let rest = taken_place n ys j x is in (omega (arith, rest.0), rest.1)

-- the values of slots, if each slot spells one value
module _ {X : Type 0} (spelled : X → List ℕ) (is_in_range : X → Bool) (slots : Slots) (at : ℕ → List ℕ) (values : List X) (are : AreSlots spelled is_in_range slots at values) where
  pub slot_at : (n : ℕ) (x : X) → slice_get values n ≡ Some x → IsSlot spelled is_in_range slots at n x
  slot_at n x is =
      let each = are.each n x is in
      record { below = omega (arith, slice_get_within values n x is, are.count); bytes = each.0; range = each.1 }

  pub value_at : ((a b : X) → is_in_range a ≡ true → is_in_range b ≡ true → spelled a ≡ spelled b → a ≡ b) → (n : ℕ) (x : X) → IsSlot spelled is_in_range slots at n x → slice_get values n ≡ Some x
  value_at once n x is =
      let there : slice_get values n ≡ Some (get_or values n x) = slice_get-get_or values n x (omega (arith, is.below, are.count)) in
      let each = are.each n (get_or values n x) there in
      there ∙ ap Some (once (get_or values n x) x each.1 is.range (sym each.0 ∙ is.bytes))

-- ---- members without repeats
pub apart_right : {K : Type 0} (xs ys : List K) → AllApart (xs ++ ys) → AllApart ys
apart_right [] ys apart = apart
apart_right (x ∷ xs) ys apart = apart_right xs ys apart.1

apart_between : {K : Type 0} (xs ys : List K) → AllApart (xs ++ ys) → (k : K) → Among xs k → Among ys k → ⊥
apart_between [] ys apart k here there = here
apart_between (x ∷ xs) ys apart k (inl same) there = apart.0 (among_right xs ys x (subst (λ j. Among ys j) (sym same) there))
apart_between (x ∷ xs) ys apart k (inr here) there = apart_between xs ys apart.1 k here there

-- no two elements share a part
pub part_once : {X K : Type 0} (parts : X → List K) (xs : List X) → AllApart (flat_map parts xs)
    → (j n : ℕ) (a b : X) (k : K) → j < n → slice_get xs j ≡ Some a → slice_get xs n ≡ Some b → Among (parts a) k → Among (parts b) k → ⊥
part_once parts [] apart j n a b k lt is_a is_b has_a has_b = cc
part_once parts (x ∷ xs) apart j zero a b k lt is_a is_b has_a has_b = omega arith
part_once {X} parts (x ∷ xs) apart zero (suc n) a b k lt is_a is_b has_a has_b =
    let same : x ≡ a = cc in
    apart_between (parts x) (flat_map parts xs) apart k (subst (λ (y : X). Among (parts y) k) (sym same) has_a) (flat_map_among parts xs b k (among_place xs n b is_b) has_b)
part_once parts (x ∷ xs) apart (suc j) (suc n) a b k lt is_a is_b has_a has_b =
    part_once parts xs (apart_right (parts x) (flat_map parts xs) apart) j n a b k (omega arith) is_a is_b has_a has_b

-- ---- a list with as many members as its set
module _ {K : Type 0} (cmp : K → K → Ordering) (order : IsTotalOrder cmp) (exact : CmpEqualImpliesEq cmp) where
  -- a member makes a set no longer
  old_member : (xs : List K) (k : K) → IsStrictlySortedBy cmp xs → Among xs k → length (insert_key cmp xs k) ≤ length xs
  old_member xs k sorted m = search (rules, members_le, sorted_insert_key, among_insert_key)

  apart_from : (xs more : List K) → IsStrictlySortedBy cmp xs → length (with_more cmp xs more) ≡ length xs + length more → AllApart more × ((k : K) → Among more k → Among xs k → ⊥)
  apart_from xs [] sorted full = (tt, λ k there here. there)
  apart_from xs (m ∷ more) sorted full =
      let most = more_le cmp (insert_key cmp xs m) more in
      let one = insert_key_le cmp xs m in
      let rest = apart_from (insert_key cmp xs m) more (sorted_insert_key cmp order xs m sorted) (omega (arith, full, most, one)) in
      let new : Among xs m → ⊥ = λ here. let few = old_member xs m sorted here in omega (arith, full, most, few) in (
        (λ there. rest.1 m there (insert_key_new cmp exact xs m), rest.0),
        λ k there here. ⊎_elim (λ same. new (subst (λ j. Among xs j) (sym same) here)) (λ later. rest.1 k later (insert_key_old cmp xs m k here)) there,
      )

  pub apart_by_count : (more : List K) → length (with_more cmp [] more) ≡ length more → AllApart more
  apart_by_count more full = (apart_from [] more (sorted_nil cmp order) (omega (arith, full))).0

-- ---- files in the order of their names
-- a file is put into the list, or the list stays as long as it is
inserted_or_not : {K : Type 0} (cmp : K → K → Ordering) (xs : List K) (k : K) → Among (insert_key cmp xs k) k ⊎ (length (insert_key cmp xs k) ≡ length xs)
inserted_or_not cmp [] k = inl (inl refl)
inserted_or_not cmp (x ∷ xs) k = search (rules, inserted_or_not cmp xs k)

all_there : {K : Type 0} (cmp : K → K → Ordering) (xs more : List K) → length (with_more cmp xs more) ≡ length xs + length more → (k : K) → Among more k → Among (with_more cmp xs more) k
all_there cmp xs [] full k m = absurd m
all_there {K} cmp xs (x ∷ more) full k (inl same) = elim (inserted_or_not cmp xs x) [
  | inl there ↦ with_more_old cmp (insert_key cmp xs x) more k (subst (λ (y : K). Among (insert_key cmp xs x) y) same there)
  | inr short ↦ absurd (let few = more_le cmp (insert_key cmp xs x) more in omega (arith, full, few, short))
]
all_there cmp xs (x ∷ more) full k (inr m) =
    let few = more_le cmp (insert_key cmp xs x) more in
    let one = insert_key_le cmp xs x in
    all_there cmp (insert_key cmp xs x) more (omega (arith, full, few, one)) k m

-- if the list has as many files as were put into it
pub file_there : (files : List File) (file : File) → length (with_more file_cmp [] files) ≡ length files → Among files file → Among (with_more file_cmp [] files) file
file_there files file full m = all_there file_cmp [] files (omega (arith, full)) file m

-- the names of files are put into order as the files are
pub names-more : (files more : List File) → map (λ (f : File). f.name) (with_more file_cmp files more) ≡ with_words (map (λ (f : File). f.name) files) (map (λ (f : File). f.name) more)
names-more files [] = refl
names-more files (f ∷ more) =
    names-more (insert_key file_cmp files f) more
    ∙ ap (λ ws. with_words ws (map (λ (g : File). g.name) more)) (map_insert_key (λ (g : File). g.name) file_cmp word_cmp (λ x y. refl) files f)
