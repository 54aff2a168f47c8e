-- Consecutive numbers, and those of them that pass a test.
use Rattle.std.proofs.Common.{◌≡◌, refl, ◌⊎◌, ℕ, zero, suc, ◌+◌, ◌<◌, ◌≤◌, Bool, true, false, ◌||◌, List, [], ◌∷◌, length, filter, cond, inl, inr, arith}
use Rattle.std.specs.declared.cmp.Ordering.TheVariants.{Less}
use Rattle.std.specs.List.{range_with_len, AllByRecursion}
use Rattle.std.specs.List.Sorted.{IsStrictlySortedBy}
use Rattle.std.specs.Ordering.{nat_cmp}
use Rattle.std.specs.Cmp.{nat_cmp_total}
use Rattle.std.proofs.lemmas.Bool.{cases_eq}
use Rattle.std.proofs.lemmas.Bool.Decides.{nat_tests}
use Rattle.lis_graph.proofs.Members.{Among}
use Rattle.lis_graph.proofs.Sets.{sorted_nil, sorted_cons}

pub among_range : (a n k : ℕ) → Among (range_with_len a n) k → (a ≤ k) × (k < a + n)
among_range a zero k h = absurd h
among_range a (suc n) k (inl same) = (omega arith, omega arith)
among_range a (suc n) k (inr h) = let rest = among_range (a + 1) n k h in (omega (arith, rest.0), omega (arith, rest.1))

pub range_among : (a n k : ℕ) → a ≤ k → k < a + n → Among (range_with_len a n) k
range_among a zero k low high = absurd (omega arith)
range_among a (suc n) k low high = by (cases_eq a k) (range_among (a + 1) n k)
  where
    by : (a ≡ k) ⊎ (a ≡ k → ⊥) → (a + 1 ≤ k → k < a + 1 + n → Among (range_with_len (a + 1) n) k) → Among (range_with_len a (suc n)) k
    by (inl same) more = inl same
    by (inr differ) more = inr (more (omega arith) (omega arith))

below_range : (k a n : ℕ) → k < a → AllByRecursion (λ y. nat_cmp k y ≡ Less) (range_with_len a n)
below_range k a zero lt = tt
below_range k a (suc n) lt = (grind (arith, nat_tests), below_range k (a + 1) n (omega arith))

pub sorted_range : (a n : ℕ) → IsStrictlySortedBy nat_cmp (range_with_len a n)
sorted_range a zero = sorted_nil nat_cmp nat_cmp_total
sorted_range a (suc n) = sorted_cons nat_cmp nat_cmp_total a (range_with_len (a + 1) n) (below_range a (a + 1) n (omega arith)) (sorted_range (a + 1) n)

-- if none passes both of two tests, the number that pass either is the sum of the numbers that pass each
pub filter_apart : {X : Type 0} (f g : X → Bool) (xs : List X) → ((x : X) → f x ≡ true → g x ≡ false) → length (filter f xs) + length (filter g xs) ≡ length (filter (λ x. f x || g x) xs)
filter_apart f g [] apart = omega arith
filter_apart f g (x ∷ xs) apart = by (f x) (g x) (apart x) (filter_apart f g xs apart)
  where
    by : (a b : Bool) → (a ≡ true → b ≡ false) → length (filter f xs) + length (filter g xs) ≡ length (filter (λ y. f y || g y) xs)
        → length (cond a (x ∷ filter f xs) (filter f xs)) + length (cond b (x ∷ filter g xs) (filter g xs)) ≡ length (cond (a || b) (x ∷ filter (λ y. f y || g y) xs) (filter (λ y. f y || g y) xs))
    by true true one rest = absurd (let no = one refl in cc)
    by true false one rest = omega arith
    by false true one rest = omega arith
    by false false one rest = rest
