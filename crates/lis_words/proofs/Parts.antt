-- The two sides of the first colon, by its index.
use Rattle.std.proofs.Common.{◌≡◌, ℕ, ◌+◌, ◌<◌, ◌≤◌, ◌^◌, Bool, true, false, not, cond, List, [], ◌∷◌, length, take, drop, refl, ap, sym, ◌∙◌, arith, suc}
use Rattle.std.specs.List.{prefix_len}
use Rattle.std.proofs.Math.Nat.{pow-le-pow_right}
use Rattle.std.proofs.lemmas.List.Sums.{prefix_len-le-length}
use Rattle.lis_words.specs.Words.{stem, value}
use Rattle.lis_words.specs.Bytes.{is_colon}

abbrev pub colon_place : List ℕ → ℕ
colon_place bytes = prefix_len (λ b. not (is_colon b)) bytes

one_more : (n : ℕ) → 1 + n ≡ suc n
one_more n = omega arith

pub stem_before : (bytes : List ℕ) → stem bytes ≡ take (colon_place bytes) bytes
stem_before [] = refl
stem_before (b ∷ bytes) = by (is_colon b) refl (stem_before bytes)
  where
    by : (t : Bool) → is_colon b ≡ t → stem bytes ≡ take (colon_place bytes) bytes
        → cond t [] (b ∷ stem bytes) ≡ take (cond (not t) (1 + colon_place bytes) 0) (b ∷ bytes)
    by true e more = refl
    by false e more = rw (one_more (colon_place bytes)) (ap (λ xs. b ∷ xs) more)

pub value_behind : (bytes : List ℕ) → value bytes ≡ drop 1 (drop (colon_place bytes) bytes)
value_behind [] = refl
value_behind (b ∷ bytes) = by (is_colon b) refl (value_behind bytes)
  where
    by : (t : Bool) → is_colon b ≡ t → value bytes ≡ drop 1 (drop (colon_place bytes) bytes)
        → cond t bytes (value bytes) ≡ drop 1 (drop (cond (not t) (1 + colon_place bytes) 0) (b ∷ bytes))
    by true e more = refl
    by false e more = rw (one_more (colon_place bytes)) more

-- twelve digits stay far below the largest 64-bit number
pub digit_fits : (n i : ℕ) → n < 10 ^ i → i < 12 → n < 10 ^ 11
digit_fits n i below few =
    let le : i ≤ 11 = omega arith in
    let most : 10 ^ i ≤ 10 ^ 11 = pow-le-pow_right (omega arith) {j = 11} le in
    omega arith

pub digits_below : (n i : ℕ) → n < 10 ^ i → i ≤ 12 → n < 10 ^ 12
digits_below n i below few =
    let most : 10 ^ i ≤ 10 ^ 12 = pow-le-pow_right (omega arith) {j = 12} few in
    omega arith

pub none_behind : (rest : List ℕ) → length rest < 1 → rest ≡ drop 1 rest
none_behind [] h = refl
none_behind (b ∷ rest) h = absurd (omega arith)

pub value_is : (bytes rest : List ℕ) (n : ℕ) → n ≡ colon_place bytes → rest ≡ drop n bytes → drop 1 rest ≡ value bytes
value_is bytes rest n at is = ap (λ xs. drop 1 xs) (is ∙ ap (λ k. drop k bytes) at) ∙ sym (value_behind bytes)

pub stem_is : (bytes : List ℕ) (n : ℕ) → n ≡ colon_place bytes → take n bytes ≡ stem bytes
stem_is bytes n at = ap (λ k. take k bytes) at ∙ sym (stem_before bytes)

pub within : (bytes : List ℕ) (n : ℕ) → n ≡ colon_place bytes → n ≤ length bytes
within bytes n at = rw at (prefix_len-le-length (λ b. not (is_colon b)) bytes)
