-- How many numbers a description has with those that pass a test.
use Rattle.lis_store.proofs.Common.{◌≡◌, ℕ, ◌+◌, ◌<◌, Bool, true, false, not, ◌&&◌, ◌||◌, List, length, filter, refl, sym, ap, ◌∙◌, arith, numbers_same, range_with_len}
use Rattle.std.specs.List.{All, count_by}
use Rattle.std.specs.List.Sorted.{IsStrictlyIncreasing}
use Rattle.std.proofs.lemmas.List.Sums.{length-filter}
use Rattle.lis_graph.proofs.Filters.{filter_twice}
use Rattle.lis_ext.specs.Numbers.{has_number, numbers_where}
use Rattle.lis_ext.proofs.Numbers.{numbers_of, numbers_apart}
use Rattle.lis_ext.proofs.Counted.{each_below}

pub where_twice : (props : ℕ) (f g : ℕ → Bool) → filter g (numbers_where props f) ≡ numbers_where props (λ n. f n && g n)
unfolding numbers_where
where_twice props f g = filter_twice f g (range_with_len 0 props)

-- a count over the numbers below
pub where_counted : (props : ℕ) (test : ℕ → Bool) → count_by test (range_with_len 0 props) ≡ length (numbers_where props test)
unfolding numbers_where
where_counted props test = sym (length-filter test (range_with_len 0 props))

pub widened : (props : ℕ) (gains : ℕ → Bool) (set : List ℕ) → IsStrictlyIncreasing set → All (λ n. n < props) set
    → length (numbers_where props gains) + count_by (λ n. not (gains n)) set ≡ length (numbers_where props (λ n. has_number set n || gains n))
widened props gains set rises below =
    let own = numbers_of props set rises (each_below props set below) in
    let counted = length-filter (λ n. not (gains n)) set in
    let new = ap length (sym (ap (filter (λ n. not (gains n))) own) ∙ where_twice props (has_number set) (λ n. not (gains n))) in
    let sum = numbers_apart props gains (λ n. has_number set n && not (gains n)) (λ n. apart (has_number set n) (gains n)) in
    let all = ap length (numbers_same props (λ n. gains n || (has_number set n && not (gains n))) (λ n. has_number set n || gains n) (λ n lt. either (has_number set n) (gains n))) in
    omega (arith, counted, new, sum, all)
  where
    apart : (h g : Bool) → g ≡ true → (h && not g) ≡ false
    apart true true e = refl
    apart false true e = refl
    apart h false e = absurd cc

    either : (h g : Bool) → (g || (h && not g)) ≡ (h || g)
    either true true = refl
    either true false = refl
    either false true = refl
    either false false = refl
