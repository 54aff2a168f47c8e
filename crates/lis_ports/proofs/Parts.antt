-- What stays of the parts of an image when a range is torn or written.
use Rattle.std.proofs.Common.{◌≡◌, ◌⊎◌, ℕ, ◌+◌, ◌-◌, ◌≤◌, List, ◌++◌, length, take, drop, refl, sym, ◌∙◌, ap, inl, inr, arith, append_assoc, length-append, length-drop}
use Rattle.std.proofs.lemmas.List.{take-take, take_at, drop_at, drop-drop, drop-take, length-take-le}
use Rattle.lis_ports.specs.Bytes.{part, put, Torn}

-- a range of m from `from` on and a range of n from `at` on have no index in common
abbrev pub Apart : ℕ → ℕ → ℕ → ℕ → Type 0
Apart at n from m = (from + m ≤ at) ⊎ (at + n ≤ from)

pub torn_refl : (at n : ℕ) (xs : List ℕ) → Torn at n xs xs
torn_refl at n xs = record { len = refl; before = refl; after = refl }

-- a part is the end of a prefix
part-front : (from m at : ℕ) (xs : List ℕ) → from + m ≤ at → part from m xs ≡ drop from (take (from + m) (take at xs))
part-front from m at xs le =
    sym (drop-take from m xs) ∙ ap (drop from) (sym (take-take (from + m) at xs le))

-- a part is a prefix of an end
part-end : (from m at : ℕ) (xs : List ℕ) → at ≤ from → part from m xs ≡ take m (drop (from - at) (drop at xs))
part-end from m at xs le =
    let e : at + (from - at) ≡ from = omega arith in
    ap (take m) (ap (λ k. drop k xs) (sym e) ∙ sym (drop-drop (from - at) at xs))

-- a part apart from the range stays
pub part-torn : (at n : ℕ) (old new : List ℕ) → Torn at n old new → (from m : ℕ) → Apart at n from m → part from m new ≡ part from m old
part-torn at n old new torn from m apart = elim apart as (λ _. part from m new ≡ part from m old) [
  | inl before ↦ part-front from m at new before
      ∙ (ap (λ front. drop from (take (from + m) front)) torn.before ∙ sym (part-front from m at old before))
  | inr after ↦ part-end from m (at + n) new after
      ∙ (ap (λ rest. take m (drop (from - (at + n)) rest)) torn.after ∙ sym (part-end from m (at + n) old after))
]

pub length-part : (at n : ℕ) (xs : List ℕ) → at + n ≤ length xs → length (part at n xs) ≡ n
length-part at n xs le = length-take-le n (drop at xs) (omega (arith, length-drop at xs))

pub length-put : (xs : List ℕ) (at : ℕ) (bytes : List ℕ) → at + length bytes ≤ length xs → length (put xs at bytes) ≡ length xs
unfolding put
length-put xs at bytes le = omega (
  arith,
  length-append (take at xs ++ bytes) (drop (at + length bytes) xs),
  length-append (take at xs) bytes,
  length-take-le at xs (omega arith),
  length-drop (at + length bytes) xs,
)

-- the prefix, the new bytes and the rest of what followed the prefix
pub put_between : (xs : List ℕ) (at : ℕ) (bytes : List ℕ) → take at xs ++ (bytes ++ drop (length bytes) (drop at xs)) ≡ put xs at bytes
unfolding put
put_between xs at bytes =
    sym (append_assoc (take at xs) bytes (drop (length bytes) (drop at xs)))
    ∙ ap (λ ys. take at xs ++ bytes ++ ys) (drop-drop (length bytes) at xs)

-- a written range is torn, and nothing else is
pub torn-put : (xs : List ℕ) (at : ℕ) (bytes : List ℕ) → at + length bytes ≤ length xs → Torn at (length bytes) xs (put xs at bytes)
unfolding put
torn-put xs at bytes le =
    let front = length-take-le at xs (omega arith) in
    let whole : length (take at xs ++ bytes) ≡ at + length bytes = length-append (take at xs) bytes ∙ ap (λ k. k + length bytes) front in
    record {
      len = length-put xs at bytes le;
      before = ap (take at) (append_assoc (take at xs) bytes (drop (at + length bytes) xs))
          ∙ take_at (take at xs) (bytes ++ drop (at + length bytes) xs) at front;
      after = drop_at (take at xs ++ bytes) (drop (at + length bytes) xs) (at + length bytes) whole;
    }

-- a written range reads as written
pub part-put : (xs : List ℕ) (at : ℕ) (bytes : List ℕ) → at + length bytes ≤ length xs → part at (length bytes) (put xs at bytes) ≡ bytes
unfolding put
part-put xs at bytes le =
    ap (λ ys. take (length bytes) (drop at ys)) (append_assoc (take at xs) bytes (drop (at + length bytes) xs))
    ∙ (ap (take (length bytes)) (drop_at (take at xs) (bytes ++ drop (at + length bytes) xs) at (length-take-le at xs (omega arith)))
    ∙ take_at bytes (drop (at + length bytes) xs) (length bytes) refl)

pub part-put_other : (xs : List ℕ) (at : ℕ) (bytes : List ℕ) → at + length bytes ≤ length xs → (from m : ℕ) → Apart at (length bytes) from m → part from m (put xs at bytes) ≡ part from m xs
part-put_other xs at bytes le from m apart =
    part-torn at (length bytes) xs (put xs at bytes) (torn-put xs at bytes le) from m apart

-- a part of a part
pub part-part : (from m at n : ℕ) (xs : List ℕ) → from + m ≤ n → part from m (part at n xs) ≡ part (at + from) m xs
part-part from m at n xs le =
    sym (drop-take from m (take n (drop at xs)))
    ∙ (ap (drop from) (take-take (from + m) n (drop at xs) le)
    ∙ (drop-take from m (drop at xs) ∙ ap (take m) (drop-drop from at xs)))
