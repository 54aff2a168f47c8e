-- Rows of bits of which none is set.
use Rattle.lis_store.proofs.Common.{◌≡◌, refl, ap, ◌∙◌, ℕ, zero, suc, Bool, false, cond, length, replicate, arith, count_by, is_taken, Metadata, marked_count}
use Rattle.std.proofs.lemmas.List.Folds.{sum_by-replicate}

-- if all bits are unset
pub none_set : (n i : ℕ) → is_taken (replicate n false) i ≡ false
none_set zero i = refl
none_set (suc n) zero = refl
none_set (suc n) (suc i) = none_set n i

-- if nothing is marked, no block must be written
pub none_marked : (k : Metadata) → k.marks ≡ replicate (length k.marks) false → marked_count k ≡ 0
none_marked k is =
    ap (count_by (λ (b : Bool). b)) is ∙ (sum_by-replicate (λ (b : Bool). cond b 1 0) (length k.marks) false ∙ omega arith)
