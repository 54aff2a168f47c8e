-- Tests of all members, rising lists and counts, when members are added and removed.
use Rattle.std.proofs.Common.{◌≡◌, ◌⊎◌, ℕ, ◌+◌, ◌≤◌, Bool, true, false, cond, List, [], ◌∷◌, length, map, filter, refl, sym, ap, ◌∙◌, inl, inr, arith}
use Rattle.std.specs.Prelude.{sum}
use Rattle.std.specs.declared.cmp.Ordering.{Ordering}
use Rattle.std.specs.declared.cmp.Ordering.TheVariants.{Less, Equal, Greater}
use Rattle.std.specs.Ordering.{match_ordering, is_lt}
use Rattle.std.specs.Cmp.{IsTotalOrder}
use Rattle.std.specs.BTreeSet.{insert_key}
use Rattle.std.specs.List.{AllByRecursion, list_all}
use Rattle.std.specs.List.Sorted.{IsStrictlySortedBy}
use Rattle.std.proofs.lemmas.Bool.{and_parts, and_from}
use Rattle.std.proofs.lemmas.List.Sums.{sum_by-cons}
use Rattle.lis_graph.specs.Graph.{is_rising}
use Rattle.lis_graph.proofs.Members.{Among, among_filter, among_insert_key}
pub use Rattle.lis_graph.proofs.Members.{all_among, all_from}
pub use Rattle.lis_graph.proofs.Filters.{filter_le}
use Rattle.lis_graph.proofs.Sets.{below_tail, sorted_tail, sorted_from_rising, sorted_insert_key}

-- ---- tests of all members
module _ {K : Type 0} where
  -- a weaker test
  pub all_weaker : (test other : K → Bool) (xs : List K) → ((x : K) → Among xs x → test x ≡ true → other x ≡ true) → list_all test xs ≡ true → list_all other xs ≡ true
  all_weaker test other xs weaker h = all_from other xs (λ x m. weaker x m (all_among test xs x h m))

  pub all_filter : (test keep : K → Bool) (xs : List K) → list_all test xs ≡ true → list_all test (filter keep xs) ≡ true
  all_filter test keep xs h = all_from test (filter keep xs) (λ x m. all_among test xs x h (among_filter keep xs x m).0)

  pub all_insert_key : (cmp : K → K → Ordering) (test : K → Bool) (xs : List K) (k : K) → list_all test xs ≡ true → test k ≡ true → list_all test (insert_key cmp xs k) ≡ true
  all_insert_key cmp test xs k h here = all_from test (insert_key cmp xs k) (λ x m. by x (among_insert_key cmp xs k x m))
    where
      by : (x : K) → (k ≡ x) ⊎ Among xs x → test x ≡ true
      by x (inl same) = ap test (sym same) ∙ here
      by x (inr m) = all_among test xs x h m

-- ---- rising lists
module _ {K : Type 0} (cmp : K → K → Ordering) where
  all_less : (x : K) (xs : List K) → AllByRecursion (λ y. cmp x y ≡ Less) xs → list_all (λ y. is_lt (cmp x y)) xs ≡ true
  all_less x [] h = refl
  all_less x (y ∷ ys) h = and_from _ _ (ap is_lt h.0) (all_less x ys h.1)

  pub rising_from_sorted : IsTotalOrder cmp → (xs : List K) → IsStrictlySortedBy cmp xs → is_rising cmp xs ≡ true
  rising_from_sorted order [] h = refl
  rising_from_sorted order (x ∷ xs) h = and_from _ _ (all_less x xs (below_tail cmp order x xs h)) (rising_from_sorted order xs (sorted_tail cmp order x xs h))

  pub rising_insert_key : IsTotalOrder cmp → (xs : List K) (k : K) → is_rising cmp xs ≡ true → is_rising cmp (insert_key cmp xs k) ≡ true
  rising_insert_key order xs k h = rising_from_sorted order (insert_key cmp xs k) (sorted_insert_key cmp order xs k (sorted_from_rising cmp order xs h))

  pub rising_filter : (keep : K → Bool) (xs : List K) → is_rising cmp xs ≡ true → is_rising cmp (filter keep xs) ≡ true
  rising_filter keep [] h = refl
  rising_filter keep (x ∷ xs) h = by (keep x) (and_parts _ _ h) (rising_filter keep xs)
    where
      by : (b : Bool) → (list_all (λ y. is_lt (cmp x y)) xs ≡ true) × (is_rising cmp xs ≡ true) → (is_rising cmp xs ≡ true → is_rising cmp (filter keep xs) ≡ true) → is_rising cmp (cond b (x ∷ filter keep xs) (filter keep xs)) ≡ true
      by true parts more = and_from _ _ (all_filter (λ y. is_lt (cmp x y)) keep xs parts.0) (more parts.1)
      by false parts more = more parts.1

-- ---- counts
module _ {K : Type 0} where
  sum_first : (count : K → ℕ) (x : K) (xs : List K) → sum (map count (x ∷ xs)) ≡ count x + sum (map count xs)
  sum_first count x xs = sum_by-cons (λ n. n) (count x) (map count xs)

  pub filter_sum_le : (count : K → ℕ) (keep : K → Bool) (xs : List K) → sum (map count (filter keep xs)) ≤ sum (map count xs)
  filter_sum_le count keep [] = omega arith
  filter_sum_le count keep (x ∷ xs) = by (keep x) (filter_sum_le count keep xs)
    where
      kept : sum (map count (filter keep xs)) ≤ sum (map count xs) → sum (map count (x ∷ filter keep xs)) ≤ sum (map count (x ∷ xs))
      kept more = rw (sum_first count x (filter keep xs), sum_first count x xs) (omega (arith, more))

      left_out : sum (map count (filter keep xs)) ≤ sum (map count xs) → sum (map count (filter keep xs)) ≤ sum (map count (x ∷ xs))
      left_out more = omega (arith, more, sum_first count x xs)

      by : (b : Bool) → sum (map count (filter keep xs)) ≤ sum (map count xs) → sum (map count (cond b (x ∷ filter keep xs) (filter keep xs))) ≤ sum (map count (x ∷ xs))
      by true more = kept more
      by false more = left_out more

  -- and fewer, if a member is left out
  pub filter_drops : (keep : K → Bool) (xs : List K) (x : K) → Among xs x → keep x ≡ false → length (filter keep xs) + 1 ≤ length xs
  filter_drops keep [] x m e = absurd m
  filter_drops keep (y ∷ ys) x (inl same) e = let gone = ap keep same ∙ e in rw gone (omega (arith, filter_le keep ys))
  filter_drops keep (y ∷ ys) x (inr m) e = by (keep y) (filter_drops keep ys x m e)
    where
      by : (b : Bool) → length (filter keep ys) + 1 ≤ length ys → length (cond b (y ∷ filter keep ys) (filter keep ys)) + 1 ≤ length (y ∷ ys)
      by true more = omega (arith, more)
      by false more = omega (arith, more)

  pub filter_sum_drops : (count : K → ℕ) (keep : K → Bool) (xs : List K) (x : K) → Among xs x → keep x ≡ false → sum (map count (filter keep xs)) + count x ≤ sum (map count xs)
  filter_sum_drops count keep [] x m e = absurd m
  filter_sum_drops count keep (y ∷ ys) x (inl same) e =
      let gone = ap keep same ∙ e in
      rw gone (omega (arith, filter_sum_le count keep ys, sum_first count y ys, ap count same))
  filter_sum_drops count keep (y ∷ ys) x (inr m) e = by (keep y) (filter_sum_drops count keep ys x m e)
    where
      kept : sum (map count (filter keep ys)) + count x ≤ sum (map count ys) → sum (map count (y ∷ filter keep ys)) + count x ≤ sum (map count (y ∷ ys))
      kept more = omega (arith, more, sum_first count y ys, sum_first count y (filter keep ys))

      left_out : sum (map count (filter keep ys)) + count x ≤ sum (map count ys) → sum (map count (filter keep ys)) + count x ≤ sum (map count (y ∷ ys))
      left_out more = omega (arith, more, sum_first count y ys)

      by : (b : Bool) → sum (map count (filter keep ys)) + count x ≤ sum (map count ys) → sum (map count (cond b (y ∷ filter keep ys) (filter keep ys))) + count x ≤ sum (map count (y ∷ ys))
      by true more = kept more
      by false more = left_out more

  pub insert_key_le : (cmp : K → K → Ordering) (xs : List K) (k : K) → length (insert_key cmp xs k) ≤ length xs + 1
  insert_key_le cmp [] k = omega arith
  insert_key_le cmp (y ∷ ys) k = by (cmp k y) (insert_key_le cmp ys k)
    where
      by : (r : Ordering) → length (insert_key cmp ys k) ≤ length ys + 1 → length (match_ordering r (k ∷ y ∷ ys) (y ∷ ys) (y ∷ insert_key cmp ys k)) ≤ length (y ∷ ys) + 1
      by Less more = omega arith
      by Equal more = omega arith
      by Greater more = omega (arith, more)

  pub le_insert_key : (cmp : K → K → Ordering) (xs : List K) (k : K) → length xs ≤ length (insert_key cmp xs k)
  le_insert_key cmp [] k = omega arith
  le_insert_key cmp (y ∷ ys) k = by (cmp k y) (le_insert_key cmp ys k)
    where
      by : (r : Ordering) → length ys ≤ length (insert_key cmp ys k) → length (y ∷ ys) ≤ length (match_ordering r (k ∷ y ∷ ys) (y ∷ ys) (y ∷ insert_key cmp ys k))
      by Less more = omega arith
      by Equal more = omega arith
      by Greater more = omega (arith, more)

  pub insert_key_sum_le : (cmp : K → K → Ordering) (count : K → ℕ) (xs : List K) (k : K) → sum (map count (insert_key cmp xs k)) ≤ sum (map count xs) + count k
  insert_key_sum_le cmp count [] k = omega (arith, sum_first count k [])
  insert_key_sum_le cmp count (y ∷ ys) k = by (cmp k y) (insert_key_sum_le cmp count ys k)
    where
      first : sum (map count (k ∷ y ∷ ys)) ≤ sum (map count (y ∷ ys)) + count k
      first = omega (arith, sum_first count k (y ∷ ys))

      there : sum (map count (y ∷ ys)) ≤ sum (map count (y ∷ ys)) + count k
      there = omega arith

      later : sum (map count (insert_key cmp ys k)) ≤ sum (map count ys) + count k → sum (map count (y ∷ insert_key cmp ys k)) ≤ sum (map count (y ∷ ys)) + count k
      later more = omega (arith, more, sum_first count y ys, sum_first count y (insert_key cmp ys k))

      by : (r : Ordering) → sum (map count (insert_key cmp ys k)) ≤ sum (map count ys) + count k → sum (map count (match_ordering r (k ∷ y ∷ ys) (y ∷ ys) (y ∷ insert_key cmp ys k))) ≤ sum (map count (y ∷ ys)) + count k
      by Less more = first
      by Equal more = there
      by Greater more = later more
