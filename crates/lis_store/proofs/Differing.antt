-- How many numbers are in only one of two sets.
use Rattle.lis_store.proofs.Common.{◌≡◌, refl, ℕ, ◌+◌, ◌≤◌, not, ◌&&◌, Bool, true, false, List, [], length, arith, IsStrictlyIncreasing, nat_cmp_total, nat_cmp, and_parts, members_le, differs, among_where, sorted_where, both_ways, numbers_where, among_from_number}
use Rattle.std.proofs.lemmas.Map.Keys.{sorted_from_strictly_increasing}
use Rattle.lis_ext.specs.Numbers.{has_number}
use Rattle.lis_ext.proofs.Numbers.{numbers_le, numbers_apart}

pub none_rising : IsStrictlyIncreasing []
none_rising k lt = omega (arith, lt)

where_few : (props : ℕ) (xs : List ℕ) → IsStrictlyIncreasing xs → length (numbers_where props (has_number xs)) ≤ length xs
where_few props xs rising =
    members_le nat_cmp nat_cmp_total (numbers_where props (has_number xs)) xs (sorted_where props (has_number xs)) (sorted_from_strictly_increasing xs rising)
    (λ n m. among_from_number xs n (among_where props (has_number xs) n m).1)

pub differ_few : (props : ℕ) (old new : List ℕ) → IsStrictlyIncreasing old → IsStrictlyIncreasing new → length (numbers_where props (differs old new)) ≤ length old + length new
differ_few props old new rising also =
    let more : ℕ → Bool = λ n. has_number new n && not (has_number old n) in
    let less : ℕ → Bool = λ n. has_number old n && not (has_number new n) in
    let all = numbers_apart props more less (λ n is. by (has_number new n) (has_number old n) is) in
    let some = numbers_le props more (has_number new) (λ n lt is. (and_parts (has_number new n) (not (has_number old n)) is).0) in
    let rest = numbers_le props less (has_number old) (λ n lt is. (and_parts (has_number old n) (not (has_number new n)) is).0) in
    omega (arith, all, some, rest, where_few props old rising, where_few props new also)
  where
    by : (a b : Bool) → (a && not b) ≡ true → (b && not a) ≡ false
    by true b is = grind arith
    by false b is = absurd (both_ways false refl is)
