-- Numbers that are in a list at most once.
use Rattle.std.proofs.Common.{◌≡◌, ℕ, ◌≤◌, true, List, [], ◌∷◌, refl, arith}
use Rattle.std.proofs.lemmas.Bool.{and_from, not_from_false}
use Rattle.lis_graph.proofs.Repeats.{often, often-cons, often_same}
use Rattle.lis_graph.proofs.Entries.{none_from}
use Rattle.lis_model.specs.Sets.{are_distinct}

pub distinct_from : (xs : List ℕ) → ((n : ℕ) → often n xs ≤ 1) → are_distinct xs ≡ true
distinct_from [] once = refl
distinct_from (x ∷ xs) once =
    and_from _ _ (not_from_false _ (none_from x xs (omega (arith, once x, often_same x x xs refl)))) (distinct_from xs (λ n. omega (arith, once n, often-cons n x xs)))
