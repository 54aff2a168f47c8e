-- Lists of block numbers, and what is taken when they are freed or taken.
use Rattle.std.proofs.Common.{◌≡◌, ◌⊎◌, ℕ, zero, suc, ◌+◌, ◌<◌, ◌≤◌, nat_lt, ◌==◌, Bool, true, false, not, ◌&&◌, ◌||◌, List, [], ◌∷◌, ◌++◌, length, get_or, set, refl, sym, ◌∙◌, ap, subst, inl, inr, arith, append_assoc, append-nil, length-set, get_or-set_same, get_or-set_other, eqb}
use Rattle.std.specs.List.{list_all, range_with_len}
use Rattle.std.proofs.lemmas.Bool.{and_parts, and_from, ltb-true, lt-ltb, eqb-false, ne_eqb, cases_eq, cases_lt}
use Rattle.std.proofs.lemmas.List.{get_or_past}
use Rattle.std.proofs.lemmas.List.Sums.{fold-append}
use Rattle.std.proofs.lemmas.List.Folds.{list_all-append, list_any-append}
pub use Rattle.lis_journal.proofs.Entries.{neither}
use Rattle.lis_blockmap.specs.Bitmap.{is_taken}
use Rattle.lis_content.specs.Content.{given, marked, are_taken, are_free, are_within}
use Rattle.lis_model.specs.Sets.{are_distinct, has_number}

pub length-given : (taken : List Bool) (ns : List ℕ) → length (given taken ns) ≡ length taken
length-given taken [] = refl
length-given taken (n ∷ ns) = length-given (set taken n false) ns ∙ length-set taken n false

pub length-marked : (taken : List Bool) (ns : List ℕ) → length (marked taken ns) ≡ length taken
length-marked taken [] = refl
length-marked taken (n ∷ ns) = length-marked (set taken n true) ns ∙ length-set taken n true

pub not_true : (b : Bool) → not b ≡ true → b ≡ false
not_true true is = absurd (let e : false ≡ true = is in cc)
not_true false is = refl

pub from_false : (b : Bool) → b ≡ false → not b ≡ true
from_false b is = ap not is

-- each number is below m
abbrev pub are_below : ℕ → List ℕ → Bool
are_below m ns = list_all (λ n. nat_lt n m) ns

pub below_from_free : (taken : List Bool) (ns : List ℕ) → are_free taken ns ≡ true → are_below (length taken) ns ≡ true
below_from_free taken [] free = refl
below_from_free taken (n ∷ ns) free =
    let parts = and_parts (nat_lt n (length taken) && not (is_taken taken n)) (are_free taken ns) free in
    let first = and_parts (nat_lt n (length taken)) (not (is_taken taken n)) parts.0 in
    and_from (nat_lt n (length taken)) (are_below (length taken) ns) first.0 (below_from_free taken ns parts.1)

-- What is free after some blocks were taken is none of them, and it was free before.
pub free_after : (m : ℕ) (taken : List Bool) (ns : List ℕ) (n : ℕ) → length taken ≡ m → are_below m ns ≡ true → is_taken (marked taken ns) n ≡ false → (has_number ns n ≡ false) × (is_taken taken n ≡ false)
free_after m taken [] n len below free = (refl, free)
free_after m taken (b ∷ ns) n len below free =
    let parts = and_parts (nat_lt b m) (are_below m ns) below in
    let after = free_after m (set taken b true) ns n (length-set taken b true ∙ len) parts.1 free in
    by (cases_eq b n) (ltb-true b m parts.0) after.0 after.1
  where
    by : (b ≡ n) ⊎ (b ≡ n → ⊥) → b < m → has_number ns n ≡ false → is_taken (set taken b true) n ≡ false → ((eqb b n || has_number ns n) ≡ false) × (is_taken taken n ≡ false)
    by (inl same) lt none free_then =
        let held : get_or (set taken b true) n false ≡ true = ap (λ k. get_or (set taken b true) k false) (sym same) ∙ get_or-set_same taken b true false (omega (arith, lt, len)) in
        absurd (let e : true ≡ false = sym held ∙ free_then in cc)
    by (inr differ) lt none free_then =
        let other : n ≡ b → ⊥ = λ e. differ (sym e) in
        (ap (λ t. t || has_number ns n) (ne_eqb b n differ) ∙ none, sym (get_or-set_other taken b n true false other) ∙ free_then)

-- One more number.
pub distinct_more : (ns : List ℕ) (n : ℕ) → are_distinct ns ≡ true → has_number ns n ≡ false → are_distinct (ns ++ n ∷ []) ≡ true
distinct_more [] n distinct new = refl
distinct_more (b ∷ ns) n distinct new =
    let parts = and_parts (not (has_number ns b)) (are_distinct ns) distinct in
    let unlike = neither (eqb b n) (has_number ns n) new in
    let differ : n ≡ b → ⊥ = λ e. eqb-false b n unlike.0 (sym e) in
    let none : has_number (ns ++ n ∷ []) b ≡ false =
    list_any-append (λ m. m == b) ns (n ∷ [])
    ∙ (ap (λ t. t || (eqb n b || false)) (not_true (has_number ns b) parts.0) ∙ ap (λ t. t || false) (ne_eqb n b differ)) in
    and_from (not (has_number (ns ++ n ∷ []) b)) (are_distinct (ns ++ n ∷ [])) (from_false (has_number (ns ++ n ∷ []) b) none) (distinct_more ns n parts.1 unlike.1)

pub free_more : (taken : List Bool) (ns : List ℕ) (n : ℕ) → are_free taken ns ≡ true → n < length taken → is_taken taken n ≡ false → are_free taken (ns ++ n ∷ []) ≡ true
free_more taken ns n free lt new =
    list_all-append (λ k. nat_lt k (length taken) && not (is_taken taken k)) ns (n ∷ [])
    ∙ and_from (are_free taken ns) ((nat_lt n (length taken) && not (is_taken taken n)) && true) free (and_from (nat_lt n (length taken) && not (is_taken taken n)) true (and_from (nat_lt n (length taken)) (not (is_taken taken n)) (lt-ltb n (length taken) lt) (from_false (is_taken taken n) new)) refl)

pub marked_more : (taken : List Bool) (ns : List ℕ) (n : ℕ) → set (marked taken ns) n true ≡ marked taken (ns ++ n ∷ [])
marked_more taken ns n = sym (fold-append (λ t k. set t k true) taken ns (n ∷ []))

-- a number that is none of these and not the new one
pub number_past : (ns : List ℕ) (n k : ℕ) → has_number ns k ≡ false → n < k → has_number (ns ++ n ∷ []) k ≡ false
number_past ns n k none lt =
    list_any-append (λ m. m == k) ns (n ∷ [])
    ∙ (ap (λ t. t || (eqb n k || false)) none ∙ ap (λ t. t || false) (ne_eqb n k (λ e. absurd (omega (arith, lt, e)))))

-- More consecutive numbers.
pub row_new : (m : ℕ) (taken : List Bool) (ns : List ℕ) (n count : ℕ) → length taken ≡ m → are_distinct ns ≡ true → are_free taken ns ≡ true → n + count ≤ m
    → ((k : ℕ) → n ≤ k → k < n + count → (has_number ns k ≡ false) × (is_taken taken k ≡ false))
    → (are_distinct (ns ++ range_with_len n count) ≡ true) × (are_free taken (ns ++ range_with_len n count) ≡ true)
row_new m taken ns n zero len distinct free within new = (ap are_distinct (append-nil ns) ∙ distinct, ap (are_free taken) (append-nil ns) ∙ free)
row_new m taken ns n (suc count) len distinct free within new =
    let first = new n (omega arith) (omega arith) in
    let is : (ns ++ n ∷ []) ++ range_with_len (n + 1) count ≡ ns ++ range_with_len n (suc count) = append_assoc ns (n ∷ []) (range_with_len (n + 1) count) in
    let rest = row_new m taken (ns ++ n ∷ []) (n + 1) count len (distinct_more ns n distinct first.0) (free_more taken ns n free (omega (arith, len, within)) first.1) (omega (arith, within))
    (λ k le lt. let was = new k (omega (arith, le)) (omega (arith, lt)) in (number_past ns n k was.0 (omega (arith, le)), was.1)) in
    (ap are_distinct (sym is) ∙ rest.0, ap (are_free taken) (sym is) ∙ rest.1)

-- Taken blocks stay taken if another one is freed.
pub taken_still : (taken : List Bool) (ns : List ℕ) (n : ℕ) → are_taken taken ns ≡ true → has_number ns n ≡ false → are_taken (set taken n false) ns ≡ true
taken_still taken [] n held new = refl
taken_still taken (b ∷ ns) n held new =
    let parts = and_parts (is_taken taken b) (are_taken taken ns) held in
    let unlike = neither (eqb b n) (has_number ns n) new in
    and_from (is_taken (set taken n false) b) (are_taken (set taken n false) ns) (get_or-set_other taken n b false false (eqb-false b n unlike.0) ∙ parts.0) (taken_still taken ns n parts.1 unlike.1)

-- a taken block is one of the map
pub below_if_taken : (taken : List Bool) (n : ℕ) → is_taken taken n ≡ true → n < length taken
below_if_taken taken n held = by (cases_lt n (length taken))
  where
    by : (n < length taken) ⊎ (length taken ≤ n) → n < length taken
    by (inl lt) = lt
    by (inr past) = absurd (let e : true ≡ false = sym held ∙ get_or_past taken n false past in cc)

pub below_from_taken : (taken : List Bool) (ns : List ℕ) → are_taken taken ns ≡ true → are_below (length taken) ns ≡ true
below_from_taken taken [] held = refl
below_from_taken taken (n ∷ ns) held =
    let parts = and_parts (is_taken taken n) (are_taken taken ns) held in
    and_from (nat_lt n (length taken)) (are_below (length taken) ns) (lt-ltb n (length taken) (below_if_taken taken n parts.0)) (below_from_taken taken ns parts.1)

-- the homes of the data blocks are below the last one's end
pub within_if_below : (base bound m : ℕ) (ns : List ℕ) → base + m ≤ bound → are_below m ns ≡ true → are_within base bound ns ≡ true
within_if_below base bound m [] le below = refl
within_if_below base bound m (n ∷ ns) le below =
    let parts = and_parts (nat_lt n m) (are_below m ns) below in
    and_from (nat_lt (base + n) bound) (are_within base bound ns) (lt-ltb (base + n) bound (omega (arith, le, ltb-true n m parts.0))) (within_if_below base bound m ns le parts.1)

-- what is taken stays taken when blocks are taken
pub stays_marked : (taken : List Bool) (ns : List ℕ) (n : ℕ) → is_taken taken n ≡ true → is_taken (marked taken ns) n ≡ true
stays_marked taken [] n held = held
stays_marked taken (b ∷ ns) n held = stays_marked (set taken b true) ns n (by (cases_eq n b))
  where
    by : (n ≡ b) ⊎ (n ≡ b → ⊥) → is_taken (set taken b true) n ≡ true
    by (inl same) = rw same (get_or-set_same taken b true false (subst (λ k. k < length taken) same (below_if_taken taken n held)))
    by (inr differ) = get_or-set_other taken b n true false differ ∙ held

pub stay_marked : (taken : List Bool) (ns ms : List ℕ) → are_taken taken ms ≡ true → are_taken (marked taken ns) ms ≡ true
stay_marked taken ns [] held = refl
stay_marked taken ns (m ∷ ms) held =
    let parts = and_parts (is_taken taken m) (are_taken taken ms) held in
    and_from (is_taken (marked taken ns) m) (are_taken (marked taken ns) ms) (stays_marked taken ns m parts.0) (stay_marked taken ns ms parts.1)

-- the blocks that were taken are taken
pub marked_are_taken : (m : ℕ) (taken : List Bool) (ns : List ℕ) → length taken ≡ m → are_below m ns ≡ true → are_taken (marked taken ns) ns ≡ true
marked_are_taken m taken [] len below = refl
marked_are_taken m taken (n ∷ ns) len below =
    let parts = and_parts (nat_lt n m) (are_below m ns) below in
    let first : is_taken (set taken n true) n ≡ true = get_or-set_same taken n true false (omega (arith, ltb-true n m parts.0, len)) in
    and_from (is_taken (marked (set taken n true) ns) n) (are_taken (marked (set taken n true) ns) ns) (stays_marked (set taken n true) ns n first) (marked_are_taken m (set taken n true) ns (length-set taken n true ∙ len) parts.1)
