-- Bytes given from a piece.
use Rattle.std.proofs.Common.{◌≡◌, ℕ, ◌+◌, ◌-◌, ◌≤◌, min, List, ◌++◌, length, take, drop, sym, ◌∙◌, ap, arith, length-drop}
use Rattle.std.proofs.lemmas.List.{take_at, drop-drop, take-append-drop, length-take-le}

pub given : (bytes buf front : List ℕ) (place n : ℕ) → place ≤ length bytes → n ≡ min (length buf) (length bytes - place) → front ≡ take n (drop place bytes)
    → drop place bytes ≡ take n (front ++ drop n buf) ++ drop (place + n) bytes
given bytes buf front place n within is is_front =
    let left : length (drop place bytes) ≡ length bytes - place = length-drop place bytes in
    let few : n ≤ length (drop place bytes) = omega arith in
    let len : length front ≡ n = ap length is_front ∙ length-take-le n (drop place bytes) few in
    let same : take n (front ++ drop n buf) ≡ front = take_at front (drop n buf) n len in
    sym (take-append-drop n (drop place bytes))
    ∙ ap (λ xs. xs ++ drop n (drop place bytes)) (sym is_front ∙ sym same)
    ∙ ap (λ xs. take n (front ++ drop n buf) ++ xs) (drop-drop n place bytes)
