-- Lists and tests that all members pass, or none; and the two parts of a list.
use Rattle.std.proofs.Common.{◌≡◌, ℕ, ◌+◌, ◌≤◌, Bool, false, List, [], ◌∷◌, ◌++◌, map, take, drop, subst, arith}
use Rattle.std.specs.Prelude.{sum}
use Rattle.std.specs.List.{list_any}
use Rattle.std.proofs.lemmas.Bool.{false_from_ne_true, both_ways}
use Rattle.std.proofs.lemmas.List.{take-append-drop}
use Rattle.std.proofs.lemmas.List.Sums.{sum_by-cons}
use Rattle.lis_graph.proofs.Members.{Among, among_right, among_from_any}

module _ {K : Type 0} where
  pub none_any : (test : K → Bool) (xs : List K) → ((x : K) → Among xs x → test x ≡ false) → list_any test xs ≡ false
  none_any test xs each = false_from_ne_true (list_any test xs) (λ h. let found = among_from_any test xs h in both_ways (test found.0) (each found.0 found.1) found.2)

  pub among_drop : (n : ℕ) (xs : List K) (x : K) → Among (drop n xs) x → Among xs x
  among_drop n xs x m = subst (λ ys. Among ys x) (take-append-drop n xs) (among_right (take n xs) (drop n xs) x m)

  -- the sum over a prefix and the next member is at most that over the whole list
  pub sum_at : (count : K → ℕ) (xs : List K) (k : K) (ys : List K) → sum (map count xs) + count k ≤ sum (map count (xs ++ k ∷ ys))
  sum_at count [] k ys = omega (arith, sum_by-cons (λ n. n) (count k) (map count ys))
  sum_at count (x ∷ xs) k ys =
      omega (arith, sum_at count xs k ys, sum_by-cons (λ n. n) (count x) (map count xs), sum_by-cons (λ n. n) (count x) (map count (xs ++ k ∷ ys)))
