-- Bytes cut where a search found a byte.
use Rattle.std.proofs.Common.{◌≡◌, ℕ, ◌+◌, ◌-◌, ◌<◌, Bool, true, not, eqb, List, [], ◌∷◌, ◌++◌, length, take, drop, get_or, Some, None, refl, sym, ap, subst, ◌∙◌, arith, length-take-le}
use Rattle.std.specs.List.{list_all}
use Rattle.std.proofs.lemmas.Bool.{eqb-true, not_from_false, false_from_ne_true}
use Rattle.std.proofs.lemmas.List.{take-append-drop, drop_more, take_more, take_all, get_or-take, get_or-drop, length-drop, length-take}
use Rattle.std.proofs.lemmas.List.Recursion.{and_from_places}
use Rattle.memchr.specs.Find.{IsFirstByte, IsLastByte, is_byte}

-- the byte is another one
abbrev pub is_other : ℕ → ℕ → Bool
is_other byte b = not (eqb b byte)

other_at : (byte : ℕ) (bytes : List ℕ) (k : ℕ) → (is_byte byte (get_or bytes k 0) ≡ true → ⊥) → is_other byte (get_or bytes k 0) ≡ true
other_at byte bytes k differs = not_from_false _ (false_from_ne_true _ differs)

others : (byte : ℕ) (bytes : List ℕ) → ((k : ℕ) → k < length bytes → is_other byte (get_or bytes k 0) ≡ true) → list_all (is_other byte) bytes ≡ true
others byte bytes each = and_from_places (list_all (is_other byte)) (is_other byte) refl (λ _ _. refl) bytes 0 each

-- none found: each byte is another one
pub none_there : (byte : ℕ) (bytes : List ℕ) → IsFirstByte (is_byte byte) bytes None → list_all (is_other byte) bytes ≡ true
none_there byte bytes none = others byte bytes (λ k below. other_at byte bytes k (none k (omega arith) below))

pub none_at_last : (byte : ℕ) (bytes : List ℕ) → IsLastByte (is_byte byte) bytes None → list_all (is_other byte) bytes ≡ true
none_at_last byte bytes none = others byte bytes (λ k below. other_at byte bytes k (none k (omega arith) below))

-- the bytes, cut at one of their bytes
cut_there : (byte : ℕ) (bytes : List ℕ) (k : ℕ) → k < length bytes → is_byte byte (get_or bytes k 0) ≡ true → bytes ≡ take k bytes ++ byte ∷ drop (k + 1) bytes
cut_there byte bytes k below is =
    sym (take-append-drop k bytes)
    ∙ ap (λ rest. take k bytes ++ rest) (drop_more bytes k 0 below ∙ ap (λ b. b ∷ drop (k + 1) bytes) (eqb-true _ byte is))

-- found first: the bytes before it are others
pub before_first_place : (byte : ℕ) (bytes : List ℕ) (k : ℕ) → IsFirstByte (is_byte byte) bytes (Some k) → list_all (is_other byte) (take k bytes) ≡ true
before_first_place byte bytes k found =
    let short : length (take k bytes) ≡ k = length-take-le k bytes (omega (arith, found.0.high)) in
    others byte (take k bytes) (λ i below.
    let low : i < k = omega (arith, short) in
    subst (λ b. is_other byte b ≡ true) (sym (get_or-take k bytes i 0 low)) (other_at byte bytes i (found.0.before i (omega arith) low)))

pub cut_at_first : (byte : ℕ) (bytes : List ℕ) (k : ℕ) → IsFirstByte (is_byte byte) bytes (Some k) → bytes ≡ take k bytes ++ byte ∷ drop (k + 1) bytes
cut_at_first byte bytes k found = cut_there byte bytes k found.0.high found.1

-- found last: the bytes after it are others
pub behind_last_place : (byte : ℕ) (bytes : List ℕ) (k : ℕ) → IsLastByte (is_byte byte) bytes (Some k) → list_all (is_other byte) (drop (k + 1) bytes) ≡ true
behind_last_place byte bytes k found =
    others byte (drop (k + 1) bytes) (λ i below.
    let high : k + 1 + i < length bytes = omega (arith, length-drop (k + 1) bytes) in
    subst (λ b. is_other byte b ≡ true) (sym (get_or-drop (k + 1) bytes i 0)) (other_at byte bytes (k + 1 + i) (found.0.after (k + 1 + i) (omega arith) high)))

pub front_at_last : (byte : ℕ) (bytes : List ℕ) (k : ℕ) → IsLastByte (is_byte byte) bytes (Some k) → take (k + 1) bytes ≡ take k bytes ++ byte ∷ []
front_at_last byte bytes k found = take_more bytes k 0 found.0.high ∙ ap (λ b. take k bytes ++ b ∷ []) (eqb-true _ byte found.1)

-- some bytes, split before the last one
pub last_apart : (bytes : List ℕ) → 0 < length bytes → bytes ≡ take (length bytes - 1) bytes ++ get_or bytes (length bytes - 1) 0 ∷ []
last_apart bytes some =
    let one : length bytes - 1 + 1 ≡ length bytes = omega arith in
    sym (take_all (length bytes) bytes (omega arith)) ∙ ap (λ n. take n bytes) (sym one) ∙ take_more bytes (length bytes - 1) 0 (omega arith)
