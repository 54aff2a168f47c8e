-- How many files have a number.
use Rattle.std.proofs.Common.{◌≡◌, ◌⊎◌, ℕ, zero, suc, ◌+◌, ◌<◌, ◌≤◌, Bool, true, false, not, ◌&&◌, ◌||◌, cond, if◌then◌else◌, nat_lt, List, [], ◌∷◌, length, get_or, set, filter, count_by, refl, sym, ap, subst, ◌∙◌, inl, inr, arith, ◌++◌, take, get_or-set_same, get_or-set_other}
use Rattle.std.specs.List.{range_with_len, list_any, All}
use Rattle.std.proofs.lemmas.Bool.{lt-ltb, cases_lt, cases_eq, and_left}
use Rattle.std.proofs.lemmas.List.FromFn.{length-range_with_len}
use Rattle.std.proofs.lemmas.List.{take-append-le, take_all}
use Rattle.std.proofs.lemmas.List.Sums.{sum_by-cons, sum_by-set, count_by-le-length, length-filter}
use Rattle.std.specs.Ordering.{nat_cmp}
use Rattle.std.specs.Cmp.{nat_cmp_total}
use Rattle.lis_graph.proofs.Sets.{same_sets}
use Rattle.lis_graph.proofs.Members.{Among, contains_from_among}
use Rattle.lis_bits.specs.Rows.{Rows, get}
use Rattle.lis_ext.specs.Numbers.{has_number, numbers_where, differs}
use Rattle.lis_ext.specs.Ext.{count_of}
use Rattle.lis_ext.specs.Inside.{CountsUp, Touches, has_alone}
use Rattle.lis_ext.proofs.Numbers.{among_where, where_among, sorted_where, numbers_same, numbers_apart, has-numbers_where}

-- ---- numbers that pass a test, up to a bound
range_more : (f : ℕ → Bool) (n a : ℕ) → length (filter f (range_with_len a (suc n))) ≡ length (filter f (range_with_len a n)) + (if f (a + n) then 1 else 0)
range_more f zero a = let same : a + 0 ≡ a = omega arith in rw same (by (f a))
  where
    by : (b : Bool) → length (cond b (a ∷ []) []) ≡ 0 + (if b then 1 else 0)
    by true = refl
    by false = refl
range_more f (suc n) a = let next : a + suc n ≡ a + 1 + n = omega arith in rw next (by (f a) (range_more f n (a + 1)))
  where
    by : (b : Bool) → length (filter f (range_with_len (a + 1) (suc n))) ≡ length (filter f (range_with_len (a + 1) n)) + (if f (a + 1 + n) then 1 else 0)
        → length (cond b (a ∷ filter f (range_with_len (a + 1) (suc n))) (filter f (range_with_len (a + 1) (suc n)))) ≡ length (cond b (a ∷ filter f (range_with_len (a + 1) n)) (filter f (range_with_len (a + 1) n))) + (if f (a + 1 + n) then 1 else 0)
    by true rest = omega arith
    by false rest = rest

pub where_more : (n : ℕ) (f : ℕ → Bool) → length (numbers_where (n + 1) f) ≡ length (numbers_where n f) + (if f n then 1 else 0)
unfolding numbers_where
where_more n f = let next : n + 1 ≡ suc n = omega arith in let start : 0 + n ≡ n = omega arith in rw next (rw start at (range_more f n 0))

-- if no number passes from a bound on to a higher one, the same numbers pass below both
pub where_ends : (n m : ℕ) (f : ℕ → Bool) → n ≤ m → ((k : ℕ) → n ≤ k → k < m → f k ≡ false) → numbers_where n f ≡ numbers_where m f
where_ends n m f le none = same_sets nat_cmp nat_cmp_total (numbers_where n f) (numbers_where m f) (sorted_where n f) (sorted_where m f)
    (λ p h. let parts = among_where n f p h in where_among m f p (omega (arith, parts.0)) parts.1)
    (λ p h. let parts = among_where m f p h in where_among n f p (low p parts.0 parts.1) parts.1)
  where
    low : (p : ℕ) → p < m → f p ≡ true → p < n
    low p lt passes = by (cases_lt p n)
      where
        by : (p < n) ⊎ (n ≤ p) → p < n
        by (inl less) = less
        by (inr ge) = absurd (let no = none p ge lt in cc)

pub where_le : (n : ℕ) (f : ℕ → Bool) → length (numbers_where n f) ≤ n
unfolding numbers_where
where_le n f = omega (arith, length-filter f (range_with_len 0 n), count_by-le-length f (range_with_len 0 n), length-range_with_len 0 n)

pub where_zero : (f : ℕ → Bool) → length (numbers_where 0 f) ≡ 0
unfolding numbers_where
where_zero f = refl

-- the next number that passes one test is counted if it passes the other
pub counted_next : (n m : ℕ) (found had : ℕ → Bool) → n ≤ m → ((k : ℕ) → n ≤ k → k < m → found k ≡ false) → found m ≡ true
    → length (numbers_where (m + 1) (λ k. found k && had k)) ≡ length (numbers_where n (λ k. found k && had k)) + (if had m then 1 else 0)
counted_next n m found had le none set =
    let more = where_more m (λ k. found k && had k) in
    let more' = rw set at more in
    let same = ap length (where_ends n m (λ k. found k && had k) le (λ k ge lt. and_left (found k) (had k) (none k ge lt))) in
    more' ∙ ap (λ i. i + (if had m then 1 else 0)) (sym same)

pub found_next : (n m : ℕ) (found : ℕ → Bool) → n ≤ m → ((k : ℕ) → n ≤ k → k < m → found k ≡ false) → found m ≡ true → length (numbers_where (m + 1) found) ≡ length (numbers_where n found) + 1
found_next n m found le none set =
    let more = where_more m found in
    let more' = rw set at more in
    let same = ap length (where_ends n m found le none) in
    more' ∙ ap (λ i. i + 1) (sym same)

-- ---- how many sets have a number
pub counted_set : (sets : List (List ℕ)) (file : ℕ) (new : List ℕ) (p : ℕ) → file < length sets → count_of (set sets file new) p + (if has_number (get_or sets file []) p then 1 else 0) ≡ count_of sets p + (if has_number new p then 1 else 0)
counted_set sets file new p lt = sum_by-set (λ (s : List ℕ). cond (has_number s p) 1 0) sets file new [] lt

pub counted_some : (sets : List (List ℕ)) (file p : ℕ) → file < length sets → has_number (get_or sets file []) p ≡ true → 0 < count_of sets p
counted_some sets file p lt there = let sum = counted_set sets file [] p lt in let sum' = rw there at sum in omega (arith, sum')

pub any_counted : {X : Type 0} (f : X → Bool) (xs : List X) → nat_lt 0 (count_by f xs) ≡ list_any f xs
any_counted f [] = refl
any_counted f (x ∷ xs) = rw (sum_by-cons (λ y. cond (f y) 1 0) x xs) (by (f x) (any_counted f xs))
  where
    by : (b : Bool) → nat_lt 0 (count_by f xs) ≡ list_any f xs → nat_lt 0 (cond b 1 0 + count_by f xs) ≡ (b || list_any f xs)
    by true rest = lt-ltb 0 (1 + count_by f xs) (omega arith)
    by false rest = let same : 0 + count_by f xs ≡ count_by f xs = omega arith in rw same rest

-- ---- a file's set is replaced
pub each_set : (P : List ℕ → Type 0) (sets : List (List ℕ)) (file : ℕ) (new : List ℕ) → ((i : ℕ) → i < length sets → P (get_or sets i [])) → P new → (i : ℕ) → i < length sets → P (get_or (set sets file new) i [])
each_set P sets file new each fresh i lt = by (cases_eq i file)
  where
    by : (i ≡ file) ⊎ (i ≡ file → ⊥) → P (get_or (set sets file new) i [])
    by (inl same) = let low : file < length sets = omega arith in rw (same, get_or-set_same sets file new [] low) fresh
    by (inr differ) = rw (get_or-set_other sets file i new [] differ) (each i lt)

pub each_below : (props : ℕ) (numbers : List ℕ) → All (λ p. p < props) numbers → (p : ℕ) → Among numbers p → p < props
each_below props numbers all p m = let found = contains_from_among numbers p m in subst (λ k. k < props) found.2 (all found.0 p found.1)

-- numbers that are written back into a `Vec` of as many
pub retaken : (n : ℕ) (xs ys : List ℕ) → length xs ≡ n → take n (xs ++ ys) ≡ xs
retaken n xs ys long = take-append-le n xs ys (omega arith) ∙ take_all n xs (omega arith)

module _ (props : ℕ) (old new : List ℕ) where
  pub counts_set : (counts mid after : List ℕ) (sets : List (List ℕ)) (file : ℕ) → file < length sets → get_or sets file [] ≡ old → CountsUp mid counts props (has_alone old new) → CountsUp mid after props (has_alone new old)
      → ((p : ℕ) → p < props → get_or counts p 0 ≡ count_of sets p) → (p : ℕ) → p < props → get_or after p 0 ≡ count_of (set sets file new) p
  counts_set counts mid after sets file lt was down up counted p p_in =
      by (has_number old p) (has_number new p) (down p p_in) (up p p_in) (rw was at (counted_set sets file new p lt))
    where
      by : (o n : Bool) → get_or counts p 0 ≡ get_or mid p 0 + (if o && not n then 1 else 0) → get_or after p 0 ≡ get_or mid p 0 + (if n && not o then 1 else 0)
          → count_of (set sets file new) p + (if o then 1 else 0) ≡ count_of sets p + (if n then 1 else 0) → get_or after p 0 ≡ count_of (set sets file new) p
      by true true d u s = omega (arith, counted p p_in)
      by true false d u s = omega (arith, counted p p_in)
      by false true d u s = omega (arith, counted p p_in)
      by false false d u s = omega (arith, counted p p_in)

  pub marks_set : (marks mid after : Rows) → Touches marks mid props (has_alone old new) → Touches mid after props (has_alone new old)
      → numbers_where props (get after 0) ≡ numbers_where props (λ p. has_number (numbers_where props (get marks 0)) p || differs old new p)
  marks_set marks mid after down up = numbers_same props (get after 0) (λ p. has_number (numbers_where props (get marks 0)) p || differs old new p)
      (λ p lt. up.marks p lt ∙ (rw (down.marks p lt, has-numbers_where props (get marks 0) p lt) (turned (get marks 0 p) (has_alone old new p) (has_alone new old p))))
    where
      turned : (x y z : Bool) → ((x || y) || z) ≡ (x || (z || y))
      turned true y z = refl
      turned false true true = refl
      turned false true false = refl
      turned false false true = refl
      turned false false false = refl

-- ---- whether some number passes
pub some_where : (n : ℕ) (f : ℕ → Bool) → 0 < length (numbers_where n f) → (k : ℕ) × (k < n) × (f k ≡ true)
some_where n f some = let found = first (numbers_where n f) some in let parts = among_where n f found.0 found.1 in (found.0, parts.0, parts.1)
  where
    first : (xs : List ℕ) → 0 < length xs → (k : ℕ) × Among xs k
    first [] lt = absurd (omega arith)
    first (x ∷ xs) lt = (x, inl refl)

pub where_some : (n : ℕ) (f : ℕ → Bool) (k : ℕ) → k < n → f k ≡ true → 0 < length (numbers_where n f)
where_some n f k lt passes = some (numbers_where n f) (where_among n f k lt passes)
  where
    some : (xs : List ℕ) → Among xs k → 0 < length xs
    some [] m = absurd m
    some (x ∷ xs) m = omega arith

-- those that pass a second test too, and those that do not
pub where_split : (n : ℕ) (f g : ℕ → Bool) → length (numbers_where n f) ≡ length (numbers_where n (λ k. f k && g k)) + length (numbers_where n (λ k. f k && not (g k)))
where_split n f g = ap length (numbers_same n f (λ k. (f k && g k) || (f k && not (g k))) (λ p lt. by (f p) (g p))) ∙ sym (numbers_apart n (λ k. f k && g k) (λ k. f k && not (g k)) (λ p. apart (f p) (g p)))
  where
    by : (a b : Bool) → a ≡ ((a && b) || (a && not b))
    by true true = refl
    by true false = refl
    by false b = refl

    apart : (a b : Bool) → (a && b) ≡ true → (a && not b) ≡ false
    apart true true e = refl
    apart true false e = absurd cc
    apart false b e = refl
