-- Whether the true bits of one row are true in another, from the words of the two.
use Rattle.std.proofs.Common.{◌≡◌, ℕ, zero, suc, ◌+◌, ◌*◌, ◌/◌, ◌%◌, ◌^◌, ◌<◌, Bool, true, false, not, ◌&&◌, List, length, get_or, nat_eq, refl, sym, ap, ◌∙◌, arith, bit_and}
use Rattle.std.specs.Int.{bit_at, bit_not, w64}
use Rattle.std.proofs.lemmas.Nat.{and_le_l}
use Rattle.std.proofs.lemmas.Nat.Bits.{bit_at-lt, bit_at-zero, same_from_bits_below}
use Rattle.lis_bits.specs.Words.{word_bit, words_bit}
use Rattle.lis_bits.proofs.Bits.{and_not_bit, zero_bit}

pub implied : (x y : Bool) → (x && not y) ≡ false → x ≡ true → y ≡ true
implied true true h t = refl
implied true false h t = absurd cc
implied false y h t = absurd cc

none_left : (x y : Bool) → (x ≡ true → y ≡ true) → (x && not y) ≡ false
none_left true true h = refl
none_left true false h = absurd (let e = h refl in cc)
none_left false y h = refl

no_bit : (n : ℕ) → n < 2 → nat_eq n 1 ≡ false → n ≡ 0
no_bit zero lt e = refl
no_bit (suc zero) lt e = absurd cc
no_bit (suc (suc n)) lt e = absurd (omega arith)

word_within : (a b : ℕ) → b < 2 ^ 64 → bit_and a (bit_not w64 b) ≡ 0 → (bit : ℕ) → bit < 64 → word_bit a bit ≡ true → word_bit b bit ≡ true
word_within a b fits none bit lt = implied (word_bit a bit) (word_bit b bit) (sym (and_not_bit a b bit fits lt) ∙ (ap (λ w. word_bit w bit) none ∙ zero_bit bit))

within_word : (a b : ℕ) → a < 2 ^ 64 → b < 2 ^ 64 → ((bit : ℕ) → bit < 64 → word_bit a bit ≡ true → word_bit b bit ≡ true) → bit_and a (bit_not w64 b) ≡ 0
within_word a b a_fits b_fits h =
    let left : ℕ = bit_and a (bit_not w64 b) in
    same_from_bits_below 64 left 0 (omega (arith, and_le_l a (bit_not w64 b))) (omega arith)
    (λ k lt. no_bit (bit_at left k) (bit_at-lt left k) (and_not_bit a b k b_fits lt ∙ none_left (word_bit a k) (word_bit b k) (h k lt)) ∙ sym (bit_at-zero k))

module _ (a b : List ℕ) (same : length a ≡ length b) (a_fit : (i : ℕ) → get_or a i 0 < 2 ^ 64) (b_fit : (i : ℕ) → get_or b i 0 < 2 ^ 64) where
  pub words_within : ((i : ℕ) → i < length a → bit_and (get_or a i 0) (bit_not w64 (get_or b i 0)) ≡ 0) → (k : ℕ) → k < 64 * length a → words_bit a k ≡ true → words_bit b k ≡ true
  words_within none k lt = word_within (get_or a (k / 64) 0) (get_or b (k / 64) 0) (b_fit (k / 64)) (none (k / 64) (omega arith)) (k % 64) (omega arith)

  pub within_words : ((k : ℕ) → k < 64 * length a → words_bit a k ≡ true → words_bit b k ≡ true) → (i : ℕ) → i < length a → bit_and (get_or a i 0) (bit_not w64 (get_or b i 0)) ≡ 0
  within_words h i lt = within_word (get_or a i 0) (get_or b i 0) (a_fit i) (b_fit i) (λ bit in_word. at_bit bit in_word (h (64 * i + bit) (omega arith)))
    where
      at_bit : (bit : ℕ) → bit < 64 → (words_bit a (64 * i + bit) ≡ true → words_bit b (64 * i + bit) ≡ true) → word_bit (get_or a i 0) bit ≡ true → word_bit (get_or b i 0) bit ≡ true
      at_bit bit in_word step = let place : (64 * i + bit) / 64 ≡ i = omega arith in let rest : (64 * i + bit) % 64 ≡ bit = omega arith in rw (place, rest) at step
