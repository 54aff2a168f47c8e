-- How often rows are edited: at most as often as bits of them differ, and the count does not fall.
use Rattle.lis_store.proofs.Common.{◌≡◌, ap, ap₂, inl, inr, ℕ, ◌+◌, ◌<◌, ◌≤◌, List, [], ◌∷◌, length, map, sum, arith, range_with_len, Among, range_among, Ext, numbers_at, differs, sum_by-cons, numbers_where}
use Rattle.lis_store.specs.Changes.{AreEditsFew}

-- a sum is at least each of its terms
sum_has : (f : ℕ → ℕ) (xs : List ℕ) (x : ℕ) → Among xs x → f x ≤ sum (map f xs)
sum_has f [] x m = absurd m
sum_has f (y ∷ ys) x (inl same) = omega (arith, ap f same, sum_by-cons (λ (n : ℕ). n) (f y) (map f ys))
sum_has f (y ∷ ys) x (inr m) = omega (arith, sum_has f ys x m, sum_by-cons (λ (n : ℕ). n) (f y) (map f ys))

-- if the set of one slot became another
pub edits_at : (p q : Ext) (slot : ℕ) (before now : List ℕ) → slot < length p.sets → numbers_at p slot ≡ before → numbers_at q slot ≡ now
    → p.edits ≤ q.edits → q.edits ≤ p.edits + length (numbers_where p.props (differs before now)) → AreEditsFew p q
edits_at p q slot before now slot_in was is no_fewer made =
    let f : ℕ → ℕ = λ at. length (numbers_where p.props (differs (numbers_at p at) (numbers_at q at))) in
    let one = sum_has f (range_with_len 0 (length p.sets)) slot (range_among 0 (length p.sets) slot (omega arith) (omega (arith, slot_in))) in
    let bits : f slot ≡ length (numbers_where p.props (differs before now)) = ap₂ (λ a b. length (numbers_where p.props (differs a b))) was is in
    (no_fewer, omega (arith, made, one, bits))

-- if no row was edited
pub edits_same : (p q : Ext) → q ≡ p → AreEditsFew p q
edits_same p q is = let same = ap (λ (e : Ext). e.edits) is in (omega (arith, same), omega (arith, same))
