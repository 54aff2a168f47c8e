-- One bit of a word, as a truth value.
use Rattle.std.proofs.Common.{◌≡◌, ◌≢◌, ℕ, zero, suc, ◌-◌, ◌*◌, ◌%◌, ◌^◌, ◌<◌, ◌≤◌, min, max, true, false, not, ◌&&◌, ◌||◌, ◌==◌, nat_eq, if◌then◌else◌, refl, sym, ap, ◌∙◌, arith, inl, inr, eq-eqb, bit_and, bit_or}
use Rattle.std.specs.Int.{bit_at, bit_not, w64, trailing_zeros}
use Rattle.std.proofs.lemmas.Bool.{cases_eq, cases_lt, ne_eqb}
use Rattle.std.proofs.lemmas.Nat.{and_le_l}
use Rattle.std.proofs.lemmas.Nat.Bits.{bit_at-lt, bit_at-zero, bit_at_and, bit_at_or, bit_at_not, bit_at_set_same, bit_at_set_other, bit_at_clear_same, bit_at_clear_other, bit_at-trailing_zeros, bit_at_mask_inside, bit_at_mask_below, ones_shl, bit_at_ones}
use Rattle.lis_bits.specs.Words.{word_bit, NoneNextIn, IsNextIn}

both : (x y : ℕ) → x < 2 → y < 2 → nat_eq (min x y) 1 ≡ (nat_eq x 1 && nat_eq y 1)
both zero zero a b = refl
both zero (suc zero) a b = refl
both (suc zero) zero a b = refl
both (suc zero) (suc zero) a b = refl
both (suc (suc x)) y a b = absurd (omega arith)
both zero (suc (suc y)) a b = absurd (omega arith)
both (suc zero) (suc (suc y)) a b = absurd (omega arith)

either : (x y : ℕ) → x < 2 → y < 2 → nat_eq (max x y) 1 ≡ (nat_eq x 1 || nat_eq y 1)
either zero zero a b = refl
either zero (suc zero) a b = refl
either (suc zero) zero a b = refl
either (suc zero) (suc zero) a b = refl
either (suc (suc x)) y a b = absurd (omega arith)
either zero (suc (suc y)) a b = absurd (omega arith)
either (suc zero) (suc (suc y)) a b = absurd (omega arith)

other : (x : ℕ) → x < 2 → nat_eq (1 - x) 1 ≡ not (nat_eq x 1)
other zero a = refl
other (suc zero) a = refl
other (suc (suc x)) a = absurd (omega arith)

-- ---- the words of joined rows, bit by bit
pub and_bit : (a b bit : ℕ) → word_bit (bit_and a b) bit ≡ (word_bit a bit && word_bit b bit)
and_bit a b bit = ap (λ n. nat_eq n 1) (bit_at_and a b bit) ∙ both (bit_at a bit) (bit_at b bit) (bit_at-lt a bit) (bit_at-lt b bit)

pub or_bit : (a b bit : ℕ) → word_bit (bit_or a b) bit ≡ (word_bit a bit || word_bit b bit)
or_bit a b bit = ap (λ n. nat_eq n 1) (bit_at_or a b bit) ∙ either (bit_at a bit) (bit_at b bit) (bit_at-lt a bit) (bit_at-lt b bit)

pub not_bit : (a bit : ℕ) → a < 2 ^ 64 → bit < 64 → word_bit (bit_not w64 a) bit ≡ not (word_bit a bit)
not_bit a bit fits lt = ap (λ n. nat_eq n 1) (bit_at_not w64 a bit fits lt) ∙ other (bit_at a bit) (bit_at-lt a bit)

pub and_not_bit : (a b bit : ℕ) → b < 2 ^ 64 → bit < 64 → word_bit (bit_and a (bit_not w64 b)) bit ≡ (word_bit a bit && not (word_bit b bit))
and_not_bit a b bit fits lt = and_bit a (bit_not w64 b) bit ∙ ap (λ v. word_bit a bit && v) (not_bit b bit fits lt)

pub ones_bit : (bit : ℕ) → bit < 64 → word_bit (2 ^ 64 - 1) bit ≡ true
ones_bit bit lt = ap (λ n. nat_eq n 1) (bit_at_ones 64 bit lt)

pub zero_bit : (bit : ℕ) → word_bit 0 bit ≡ false
zero_bit bit = ap (λ n. nat_eq n 1) (bit_at-zero bit)

-- ---- one bit set or cleared
pub set_bit : (word bit k : ℕ) → bit < 64 → word_bit (bit_or word (1 * 2 ^ bit % 2 ^ 64)) k ≡ (if k == bit then true else word_bit word k)
set_bit word bit k lt =
    elim (cases_eq k bit) [
      | inl same ↦ rw (eq-eqb k bit same, same, bit_at_set_same w64 word bit lt)
      | inr differ ↦ rw (ne_eqb k bit differ) (ap (λ n. nat_eq n 1) (bit_at_set_other w64 word bit lt k differ))
    ]

pub clear_bit : (word bit k : ℕ) → bit < 64 → k < 64 → word_bit (bit_and word (bit_not w64 (1 * 2 ^ bit % 2 ^ 64))) k ≡ (if k == bit then false else word_bit word k)
clear_bit word bit k lt in_word =
    elim (cases_eq k bit) [
      | inl same ↦ rw (eq-eqb k bit same, same, bit_at_clear_same w64 word bit lt)
      | inr differ ↦ rw (ne_eqb k bit differ) (ap (λ n. nat_eq n 1) (bit_at_clear_other w64 word bit lt k in_word differ))
    ]

-- ---- the least bit from a place on
module _ (word start : ℕ) (in_word : start < 64) (fits : word < 2 ^ 64) where
  masked_above : (k : ℕ) → start ≤ k → k < 64 → bit_at (bit_and word (2 ^ 64 - 2 ^ start)) k ≡ bit_at word k
  masked_above k le lt = bit_at_and word (2 ^ 64 - 2 ^ start) k ∙ rw (bit_at_mask_inside start 64 k le lt) (omega (arith, bit_at-lt word k))

  masked_below : (k : ℕ) → k < start → bit_at (bit_and word (2 ^ 64 - 2 ^ start)) k ≡ 0
  masked_below k lt = bit_at_and word (2 ^ 64 - 2 ^ start) k ∙ rw (bit_at_mask_below start 64 k lt) (omega arith)

  pub none_next_in : bit_and word (2 ^ 64 - 2 ^ start) ≡ 0 → NoneNextIn word start
  none_next_in none k le lt = ap (λ n. nat_eq n 1) (sym (masked_above k le lt) ∙ ap (λ n. bit_at n k) none ∙ bit_at-zero k)

  pub next_in_is : bit_and word (2 ^ 64 - 2 ^ start) ≢ 0 → IsNextIn word start (trailing_zeros w64 (bit_and word (2 ^ 64 - 2 ^ start)))
  next_in_is some =
      let rest : ℕ = bit_and word (2 ^ 64 - 2 ^ start) in
      let le = and_le_l word (2 ^ 64 - 2 ^ start) in
      let found = bit_at-trailing_zeros w64 rest (omega arith) (omega arith) in
      let place : ℕ = trailing_zeros w64 rest in
      let above : start ≤ place = elim (cases_lt place start) [ inl below ↦ absurd (omega (arith, masked_below place below, found.1)) | inr ge ↦ ge ] in
      record {
        from = above;
        in_word = found.0;
        set = ap (λ n. nat_eq n 1) (sym (masked_above place above found.0) ∙ found.1);
        none_before = λ k le lt. ap (λ n. nat_eq n 1) (sym (masked_above k le (omega (arith, found.0))) ∙ found.2 k lt);
      }

-- ---- as the code shifts the mask
pub none_next_shifted : (word start : ℕ) → start < 64 → word < 2 ^ 64 → bit_and word ((2 ^ 64 - 1) * 2 ^ start % 2 ^ 64) ≡ 0 → NoneNextIn word start
none_next_shifted word start lt fits none = none_next_in word start lt fits (rw (ones_shl 64 start (omega arith)) at none)

pub next_shifted : (word start : ℕ) → start < 64 → word < 2 ^ 64 → bit_and word ((2 ^ 64 - 1) * 2 ^ start % 2 ^ 64) ≢ 0 → IsNextIn word start (trailing_zeros w64 (bit_and word ((2 ^ 64 - 1) * 2 ^ start % 2 ^ 64)))
next_shifted word start lt fits some =
    let mask = ones_shl 64 start (omega arith) in
    rw mask (next_in_is word start lt fits (λ none. some (rw mask none)))
