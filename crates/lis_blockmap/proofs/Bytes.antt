-- The bytes of a block of the bitmap.
use Rattle.std.proofs.Common.{◌≡◌, ℕ, zero, suc, ◌+◌, ◌*◌, ◌/◌, ◌%◌, ◌^◌, ◌<◌, ◌≤◌, Bool, true, false, not, if◌then◌else◌, List, length, get_or, refl, sym, ap, ap₂, ◌∙◌, arith, add-one}
use Rattle.std.proofs.lemmas.List.{get_or_past}
use Rattle.std.proofs.Math.Nat.{pow-suc, pow-le-pow_right}
use mir.Val.{bool_byte}
use Rattle.lis_bits.specs.Bytes.{bits_number, bits_bytes}
use Rattle.lis_bits.specs.Words.{word_bit}
use Rattle.lis_bits.proofs.Numbers.{number_below, number_none, number_same, number_is, bytes_are}
use Rattle.lis_blockmap.specs.Bitmap.{is_taken, has_bit}

-- a truth value as a byte
pub bit_small : (b : Bool) → bool_byte b ≤ 1
bit_small true = omega arith
bit_small false = omega arith

bit_first : (b : Bool) (n : ℕ) → n + bool_byte b ≡ (if b then 1 else 0) + n
bit_first true n = omega arith
bit_first false n = omega arith

-- one more bit before the others
pub number_more : (bit : ℕ → Bool) (n i byte : ℕ) (b : Bool) → b ≡ bit n → byte ≡ bits_number i (λ j. bit (n + 1 + j)) → 2 * byte + bool_byte b ≡ bits_number (i + 1) (λ j. bit (n + j))
unfolding bits_number
number_more bit n i byte b is so_far =
    let here : n ≡ n + 0 = omega arith in
    let rest = number_same i (λ j. bit (n + 1 + j)) (λ j. bit (n + (j + 1))) (λ j lt. let place : n + 1 + j ≡ n + (j + 1) = omega arith in ap bit place) in
    bit_first b (2 * byte)
    ∙ (ap₂ (λ (c : Bool) (x : ℕ). (if c then 1 else 0) + 2 * x) (is ∙ ap bit here) (so_far ∙ rest) ∙ sym (ap (λ m. bits_number m (λ j. bit (n + j))) (add-one i)))

-- one more bit of a byte fits
pub byte_fits : (bits : ℕ → Bool) (i byte bit : ℕ) → i < 8 → byte ≡ bits_number i bits → bit ≤ 1 → 2 * byte + bit < 2 ^ 8
byte_fits bits i byte bit lt same small =
    let few : i ≤ 7 = omega arith in
    let two : 0 < 2 = omega arith in
    let most : 2 ^ i ≤ 2 ^ 7 = pow-le-pow_right two few in
    omega (arith, most, number_below i bits)

-- a byte past the last block
pub byte_past : (taken : List Bool) (k : ℕ) → length taken ≤ 8 * k → bits_number 8 (λ i. is_taken taken (8 * k + i)) ≡ 0
byte_past taken k past = number_none 8 (λ i. is_taken taken (8 * k + i)) (λ i. get_or_past taken (8 * k + i) false (omega arith))

-- a byte of block n of the bitmap, by its place among the bytes of all blocks
pub byte_in_block : (taken : List Bool) (n k : ℕ) → bits_number 8 (λ i. is_taken taken (8 * (4096 * n + k) + i)) ≡ bits_number 8 (λ i. is_taken taken (32768 * n + (8 * k + i)))
byte_in_block taken n k = number_same 8 (λ i. is_taken taken (8 * (4096 * n + k) + i)) (λ i. is_taken taken (32768 * n + (8 * k + i)))
    (λ i lt. let place : 8 * (4096 * n + k) + i ≡ 32768 * n + (8 * k + i) = omega arith in ap (is_taken taken) place)

one_turned : (b c : Bool) (y z p : ℕ) → c ≡ not b → y + z + 1 ≡ p → ((if c then 1 else 0) + 2 * y) + ((if b then 1 else 0) + 2 * z) + 1 ≡ p * 2
one_turned true false y z p is rest = omega arith
one_turned false true y z p is rest = omega arith
one_turned true true y z p is rest = absurd cc
one_turned false false y z p is rest = absurd cc

-- inverted bits make the inverted number
pub turned_over : (n : ℕ) (bit turned : ℕ → Bool) → ((i : ℕ) → i < n → turned i ≡ not (bit i)) → bits_number n turned + bits_number n bit + 1 ≡ 2 ^ n
unfolding bits_number
turned_over zero bit turned each = refl
turned_over (suc n) bit turned each =
    let rest = turned_over n (λ i. bit (i + 1)) (λ i. turned (i + 1)) (λ i lt. each (i + 1) (omega arith)) in
    rw pow-suc (one_turned (bit 0) (turned 0) (bits_number n (λ i. turned (i + 1))) (bits_number n (λ i. bit (i + 1))) (2 ^ n) (each 0 (omega arith)) rest)

-- ---- the bits of a block
in_bytes : (bytes : List ℕ) (bit : ℕ → Bool) → length bytes ≡ 4096 → ((k : ℕ) → get_or bytes k 0 < 2 ^ 8) → ((n : ℕ) → n < 32768 → has_bit bytes n ≡ bit n) → bytes ≡ bits_bytes 4096 bit
in_bytes bytes bit long small same =
    bytes_are bytes 4096 bit long (λ k lt. number_is 8 (get_or bytes k 0) (λ i. bit (8 * k + i)) (small k) (λ i within.
    let byte : k ≡ (8 * k + i) / 8 = omega arith in
    let place : i ≡ (8 * k + i) % 8 = omega arith in
    ap₂ (λ at i. word_bit (get_or bytes at 0) i) byte place ∙ same (8 * k + i) (omega arith)))

-- two blocks with the same bits are one
pub same_from_bits : (a b : List ℕ) → length a ≡ 4096 → length b ≡ 4096 → ((k : ℕ) → get_or a k 0 < 2 ^ 8) → ((k : ℕ) → get_or b k 0 < 2 ^ 8) → ((n : ℕ) → n < 32768 → has_bit a n ≡ has_bit b n) → a ≡ b
same_from_bits a b long_a long_b small_a small_b same = in_bytes a (has_bit b) long_a small_a same ∙ sym (in_bytes b (has_bit b) long_b small_b (λ n lt. refl))
