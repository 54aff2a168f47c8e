-- What a crash leaves of a range, byte by byte.
use Rattle.std.proofs.Common.{◌≡◌, ℕ, ◌+◌, ◌<◌, ◌≤◌, List, [], ◌∷◌, ◌++◌, length, get_or, take, drop, refl, sym, ◌∙◌, ap, arith, zero, suc}
use Rattle.std.proofs.lemmas.List.{ext_get_or}
use Rattle.lis_ports.specs.Bytes.{part, put}
use Rattle.lis_ports.proofs.Parts.{length-part, put_between}
use Rattle.lis_memdisk.specs.Changes.{picked, picked_byte}

pub length-picked : (pick at : ℕ) (new old : List ℕ) → length new ≡ length old → length (picked pick at new old) ≡ length new
length-picked pick at [] old e = refl
length-picked pick at (x ∷ new) [] e = sym e
length-picked pick at (x ∷ new) (y ∷ old) e = ap suc (length-picked pick (at + 1) new old cc)

picked-at : (pick at : ℕ) (new old : List ℕ) (k : ℕ) → length new ≡ length old → k < length new → get_or (picked pick at new old) k 0 ≡ picked_byte pick (at + k) (get_or new k 0) (get_or old k 0)
picked-at pick at [] old k e lt = absurd (omega arith)
picked-at pick at (x ∷ new) [] k e lt = absurd (omega (arith, e))
picked-at pick at (x ∷ new) (y ∷ old) zero e lt =
    let same : at ≡ at + 0 = omega arith in ap (λ n. picked_byte pick n x y) same
picked-at pick at (x ∷ new) (y ∷ old) (suc k) e lt =
    let same : at + 1 + k ≡ at + suc k = omega arith in
    let less : k < length new = omega (arith, lt) in
    let lens : length new ≡ length old = omega (arith, e) in
    picked-at pick (at + 1) new old k lens less ∙ ap (λ n. picked_byte pick n (get_or new k 0) (get_or old k 0)) same

-- a list that has the picked byte at each index is the picked list
pub picked_whole : (pick at : ℕ) (new old all : List ℕ) → length new ≡ length old → length all ≡ length new → ((k : ℕ) → k < length new → get_or all k 0 ≡ picked_byte pick (at + k) (get_or new k 0) (get_or old k 0)) → all ≡ picked pick at new old
picked_whole pick at new old all same len each =
    ext_get_or 0 all (picked pick at new old) (len ∙ sym (length-picked pick at new old same))
    (λ k lt. each k (omega (arith, lt, len)) ∙ sym (picked-at pick at new old k same (omega (arith, lt, len))))

-- the same for the picked bytes of the range
pub put_picked : (pick at : ℕ) (bytes xs : List ℕ) → at + length bytes ≤ length xs → take at xs ++ (picked pick at bytes (take (length bytes) (drop at xs)) ++ drop (length bytes) (drop at xs)) ≡ put xs at (picked pick at bytes (part at (length bytes) xs))
put_picked pick at bytes xs le =
    let same = length-picked pick at bytes (part at (length bytes) xs) (sym (length-part at (length bytes) xs le)) in
    ap (λ n. take at xs ++ (picked pick at bytes (part at (length bytes) xs) ++ drop n (drop at xs))) (sym same)
    ∙ put_between xs at (picked pick at bytes (part at (length bytes) xs))
