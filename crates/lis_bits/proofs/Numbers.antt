-- Truth values as numbers and as bytes.
use Rattle.std.proofs.Common.{◌≡◌, ℕ, zero, suc, ◌+◌, ◌*◌, ◌/◌, ◌%◌, ◌^◌, ◌<◌, Bool, true, false, ◌&&◌, if◌then◌else◌, List, length, get_or, replicate, nat_eq, refl, sym, ap, ◌∙◌, arith, add-one, bit_and}
use Rattle.std.specs.Int.{bit_at}
use Rattle.std.proofs.Math.Nat.{pow-suc, div-div-eq-div-mul}
use Rattle.std.proofs.lemmas.Nat.{pow-add, and_le_r}
use Rattle.std.proofs.lemmas.Nat.Bits.{bit_at-lt, bit_at-suc, bit_at_lowest, bit_at_ones, same_from_bits_below}
use Rattle.std.proofs.lemmas.List.{get_or-replicate, length-replicate}
use Rattle.std.proofs.lemmas.List.FromFn.{fill_by_all, get_or-map-range_with_len, length-map-range_with_len}
use Rattle.lis_bits.specs.Words.{word_bit, words_bit}
use Rattle.lis_bits.specs.Bytes.{bits_number, bits_bytes}
use Rattle.lis_bits.proofs.Bits.{and_bit}

below_more : (b : Bool) (n x : ℕ) → x < 2 ^ n → (if b then 1 else 0) + 2 * x < 2 ^ suc n
below_more true n x lt = omega (arith, pow-suc 2 n)
below_more false n x lt = omega (arith, pow-suc 2 n)

pub number_below : (n : ℕ) (bit : ℕ → Bool) → bits_number n bit < 2 ^ n
unfolding bits_number
number_below zero bit = omega arith
number_below (suc n) bit = below_more (bit 0) n (bits_number n (λ i. bit (i + 1))) (number_below n (λ i. bit (i + 1)))

lowest : (b : Bool) (n : ℕ) → nat_eq (((if b then 1 else 0) + 2 * n) % 2) 1 ≡ b
lowest true n = let odd : (1 + 2 * n) % 2 ≡ 1 = omega arith in rw odd
lowest false n = let even : (0 + 2 * n) % 2 ≡ 0 = omega arith in rw even

higher : (b : Bool) (n : ℕ) → ((if b then 1 else 0) + 2 * n) / 2 ≡ n
higher true n = omega arith
higher false n = omega arith

pub number_bit : (n : ℕ) (bit : ℕ → Bool) (i : ℕ) → i < n → word_bit (bits_number n bit) i ≡ bit i
unfolding bits_number
number_bit zero bit i lt = absurd (omega arith)
number_bit (suc n) bit zero lt = ap (λ x. nat_eq x 1) (bit_at_lowest (bits_number (suc n) bit)) ∙ lowest (bit 0) (bits_number n (λ i. bit (i + 1)))
number_bit (suc n) bit (suc i) lt =
    ap (λ x. nat_eq x 1) (bit_at-suc (bits_number (suc n) bit) i)
    ∙ (ap (λ x. word_bit x i) (higher (bit 0) (bits_number n (λ i. bit (i + 1)))) ∙ (number_bit n (λ i. bit (i + 1)) i (omega arith) ∙ ap bit (add-one i)))

same_bit : (x y : ℕ) → x < 2 → y < 2 → nat_eq x 1 ≡ nat_eq y 1 → x ≡ y
same_bit zero zero a b e = refl
same_bit zero (suc zero) a b e = absurd cc
same_bit (suc zero) zero a b e = absurd cc
same_bit (suc zero) (suc zero) a b e = refl
same_bit (suc (suc x)) y a b e = absurd (omega arith)
same_bit x (suc (suc y)) a b e = absurd (omega arith)

-- a number with these bits
pub number_is : (n word : ℕ) (bit : ℕ → Bool) → word < 2 ^ n → ((i : ℕ) → i < n → word_bit word i ≡ bit i) → word ≡ bits_number n bit
number_is n word bit small same = same_from_bits_below n word (bits_number n bit) small (number_below n bit)
    (λ i lt. same_bit (bit_at word i) (bit_at (bits_number n bit) i) (bit_at-lt word i) (bit_at-lt (bits_number n bit) i) (same i lt ∙ sym (number_bit n bit i lt)))

pub shifted : (word by i : ℕ) → bit_at (word / 2 ^ by) i ≡ bit_at word (by + i)
shifted word by i = rw (pow-add 2 by i, div-div-eq-div-mul word (2 ^ by) (2 ^ i))

pub byte_is : (words : List ℕ) (k : ℕ) → bit_and (get_or words (k / 8) 0 / 2 ^ (k % 8 * 8)) 255 ≡ bits_number 8 (λ i. words_bit words (8 * k + i))
byte_is words k = number_is 8 (bit_and (get_or words (k / 8) 0 / 2 ^ (k % 8 * 8)) 255) (λ i. words_bit words (8 * k + i)) (let le = and_le_r (get_or words (k / 8) 0 / 2 ^ (k % 8 * 8)) 255 in omega arith) at
  where
    kept : (b : Bool) → (b && true) ≡ b
    kept true = refl
    kept false = refl

    at : (i : ℕ) → i < 8 → word_bit (bit_and (get_or words (k / 8) 0 / 2 ^ (k % 8 * 8)) 255) i ≡ words_bit words (8 * k + i)
    at i lt =
        let place : (8 * k + i) / 64 ≡ k / 8 = omega arith in
        let rest : (8 * k + i) % 64 ≡ k % 8 * 8 + i = omega arith in
        let one = ap (λ x. nat_eq x 1) (bit_at_ones 8 i lt) in
        let shift = ap (λ x. nat_eq x 1) (shifted (get_or words (k / 8) 0) (k % 8 * 8) i) in
        and_bit (get_or words (k / 8) 0 / 2 ^ (k % 8 * 8)) 255 i ∙ (ap (λ b. word_bit (get_or words (k / 8) 0 / 2 ^ (k % 8 * 8)) i && b) one ∙ (kept (word_bit (get_or words (k / 8) 0 / 2 ^ (k % 8 * 8)) i) ∙ (shift ∙ rw (place, rest))))

-- bytes of eight truth values each
pub bytes_are : (bytes : List ℕ) (count : ℕ) (bit : ℕ → Bool) → length bytes ≡ count → ((k : ℕ) → k < count → get_or bytes k 0 ≡ bits_number 8 (λ i. bit (8 * k + i))) → bytes ≡ bits_bytes count bit
unfolding bits_bytes
bytes_are bytes count bit long each = fill_by_all (λ k. bits_number 8 (λ i. bit (8 * k + i))) bytes count 0 long each

pub number_same : (n : ℕ) (f g : ℕ → Bool) → ((i : ℕ) → i < n → f i ≡ g i) → bits_number n f ≡ bits_number n g
number_same n f g same = number_is n (bits_number n f) g (number_below n f) (λ i lt. number_bit n f i lt ∙ same i lt)

length-bits_bytes : (count : ℕ) (bit : ℕ → Bool) → length (bits_bytes count bit) ≡ count
unfolding bits_bytes
length-bits_bytes count bit = length-map-range_with_len (λ k. bits_number 8 (λ i. bit (8 * k + i))) 0 count

pub byte-bits_bytes : (count : ℕ) (bit : ℕ → Bool) (k : ℕ) → k < count → get_or (bits_bytes count bit) k 0 ≡ bits_number 8 (λ i. bit (8 * k + i))
unfolding bits_bytes
byte-bits_bytes count bit k lt = get_or-map-range_with_len (λ k. bits_number 8 (λ i. bit (8 * k + i))) 0 count k k 0 lt (omega arith)

-- other truth values that are the same
pub bytes_same : (count : ℕ) (f g : ℕ → Bool) → ((i : ℕ) → i < 8 * count → f i ≡ g i) → bits_bytes count f ≡ bits_bytes count g
bytes_same count f g same = bytes_are (bits_bytes count f) count g (length-bits_bytes count f)
    (λ k lt. byte-bits_bytes count f k lt ∙ number_same 8 (λ i. f (8 * k + i)) (λ i. g (8 * k + i)) (λ i small. same (8 * k + i) (omega arith)))

-- truth values that are all false
pub number_none : (n : ℕ) (bit : ℕ → Bool) → ((i : ℕ) → bit i ≡ false) → bits_number n bit ≡ 0
unfolding bits_number
number_none zero bit none = refl
number_none (suc n) bit none = rw (none 0, number_none n (λ i. bit (i + 1)) (λ i. none (i + 1))) refl

pub bytes_none : (count : ℕ) (bit : ℕ → Bool) → ((i : ℕ) → bit i ≡ false) → replicate count 0 ≡ bits_bytes count bit
bytes_none count bit none = bytes_are (replicate count 0) count bit (length-replicate count 0)
    (λ k lt. get_or-replicate count k 0 0 lt ∙ sym (number_none 8 (λ i. bit (8 * k + i)) (λ i. none (8 * k + i))))
