-- Whether bytes are those of words, from the number that eight of them make.
use Rattle.std.proofs.Common.{◌≡◌, ◌⊎◌, inl, inr, ℕ, zero, suc, ◌+◌, ◌-◌, ◌≤◌, ◌*◌, ◌/◌, ◌%◌, ◌^◌, ◌<◌, Bool, true, false, ◌&&◌, List, length, get_or, take, drop, nat_eq, refl, sym, ap, subst, ◌∙◌, arith}
use Rattle.std.specs.Int.{w64, to_le_bytes, from_le_bytes}
use Rattle.std.proofs.lemmas.Nat.{and_mask, le_bytes_8, from_le_bytes-to_le_bytes_8}
use Rattle.std.proofs.lemmas.Nat.Bits.{bit_at_ones}
use Rattle.std.proofs.lemmas.Bool.{cases_lt}
use Rattle.std.proofs.lemmas.List.{get_or-take, get_or-drop}
use Rattle.lis_bits.specs.Words.{word_bit, words_bit, HasBytes}
use Rattle.lis_bits.specs.Bytes.{bits_number, bits_bytes}
use Rattle.lis_bits.proofs.Bits.{and_bit}
use Rattle.lis_bits.proofs.Numbers.{number_is, number_same, byte-bits_bytes, shifted}

-- a byte of a word
byte_bits : (word i : ℕ) → word / 2 ^ (8 * i) % 256 ≡ bits_number 8 (λ bit. word_bit word (8 * i + bit))
byte_bits word i = number_is 8 (word / 2 ^ (8 * i) % 256) (λ bit. word_bit word (8 * i + bit)) (omega arith) at
  where
    kept : (b : Bool) → (b && true) ≡ b
    kept true = refl
    kept false = refl

    at : (bit : ℕ) → bit < 8 → word_bit (word / 2 ^ (8 * i) % 256) bit ≡ word_bit word (8 * i + bit)
    at bit lt =
        ap (λ n. word_bit n bit) (sym (and_mask (word / 2 ^ (8 * i)) 8))
        ∙ (and_bit (word / 2 ^ (8 * i)) 255 bit
        ∙ (ap (λ b. word_bit (word / 2 ^ (8 * i)) bit && b) (ap (λ n. nat_eq n 1) (bit_at_ones 8 bit lt))
        ∙ (kept (word_bit (word / 2 ^ (8 * i)) bit) ∙ ap (λ n. nat_eq n 1) (shifted word (8 * i) bit))))

whole : (word : ℕ) → word % 256 ≡ word / 2 ^ (8 * 0) % 256
whole word = omega arith

pub spelled : (word i : ℕ) → i < 8 → get_or (to_le_bytes w64 word) i 0 ≡ bits_number 8 (λ bit. word_bit word (8 * i + bit))
spelled word zero lt = whole word ∙ byte_bits word 0
spelled word (suc zero) lt = byte_bits word 1
spelled word (suc (suc zero)) lt = byte_bits word 2
spelled word (suc (suc (suc zero))) lt = byte_bits word 3
spelled word (suc (suc (suc (suc zero)))) lt = byte_bits word 4
spelled word (suc (suc (suc (suc (suc zero))))) lt = byte_bits word 5
spelled word (suc (suc (suc (suc (suc (suc zero)))))) lt = byte_bits word 6
spelled word (suc (suc (suc (suc (suc (suc (suc zero))))))) lt = byte_bits word 7
spelled word (suc (suc (suc (suc (suc (suc (suc (suc i)))))))) lt = absurd (omega (arith, lt))

module _ (bytes : List ℕ) (word : ℕ) where
  pub from_load : length bytes ≡ 8 → ((i : ℕ) → get_or bytes i 0 < 256) → word ≡ from_le_bytes w64 bytes → (i : ℕ) → i < 8 → get_or bytes i 0 ≡ bits_number 8 (λ bit. word_bit word (8 * i + bit))
  from_load long fit loaded i lt = ap (λ (bs : List ℕ). get_or bs i 0) (sym (le_bytes_8 bytes word long fit loaded)) ∙ spelled word i lt

  pub to_load : word < 2 ^ 64 → ((i : ℕ) → i < 8 → get_or bytes i 0 ≡ bits_number 8 (λ bit. word_bit word (8 * i + bit))) → word ≡ from_le_bytes w64 bytes
  to_load fits same = sym (from_le_bytes-to_le_bytes_8 word fits) ∙ sym (rw (each 0 (omega arith), each 1 (omega arith), each 2 (omega arith), each 3 (omega arith), each 4 (omega arith), each 5 (omega arith), each 6 (omega arith), each 7 (omega arith)) refl)
    where
      each : (i : ℕ) → i < 8 → get_or bytes i 0 ≡ get_or (to_le_bytes w64 word) i 0
      each i lt = same i lt ∙ sym (spelled word i lt)

-- ---- the bytes of the k-th word
module _ (words bytes : List ℕ) (k : ℕ) where
  -- the eight bytes that are loaded
  abbrev pub loaded : List ℕ
  loaded = take (8 * k + 8 - 8 * k) (drop (8 * k) bytes)

  at : (i : ℕ) → i < 8 → get_or loaded i 0 ≡ get_or bytes (8 * k + i) 0
  at i lt = get_or-take (8 * k + 8 - 8 * k) (drop (8 * k) bytes) i 0 (omega (arith, lt)) ∙ get_or-drop (8 * k) bytes i 0

  bits : (i : ℕ) → i < 8 → bits_number 8 (λ bit. word_bit (get_or words k 0) (8 * i + bit)) ≡ bits_number 8 (λ bit. words_bit words (8 * (8 * k + i) + bit))
  bits i lt = number_same 8 (λ bit. word_bit (get_or words k 0) (8 * i + bit)) (λ bit. words_bit words (8 * (8 * k + i) + bit)) same
    where
      same : (bit : ℕ) → bit < 8 → word_bit (get_or words k 0) (8 * i + bit) ≡ words_bit words (8 * (8 * k + i) + bit)
      same bit low =
          let place : (8 * (8 * k + i) + bit) / 64 ≡ k = omega (arith, lt, low) in
          let rest : (8 * (8 * k + i) + bit) % 64 ≡ 8 * i + bit = omega (arith, lt, low) in
          rw (place, rest) refl

  pub one_more : HasBytes words bytes (8 * k) → ((i : ℕ) → i < 8 → get_or loaded i 0 ≡ bits_number 8 (λ bit. word_bit (get_or words k 0) (8 * i + bit))) → HasBytes words bytes (8 * (k + 1))
  one_more has own j lt = by (cases_lt j (8 * k))
    where
      by : (j < 8 * k) ⊎ (8 * k ≤ j) → get_or bytes j 0 ≡ bits_number 8 (λ bit. words_bit words (8 * j + bit))
      by (inl low) = has j low
      by (inr high) =
          let i : ℕ = j - 8 * k in
          let low : i < 8 = omega (arith, lt, high) in
          let is : 8 * k + i ≡ j = omega (arith, high) in
          subst (λ n. get_or bytes n 0 ≡ bits_number 8 (λ bit. words_bit words (8 * n + bit))) is (sym (at i low) ∙ (own i low ∙ bits i low))

  pub its_own : bytes ≡ bits_bytes (length bytes) (words_bit words) → 8 * k + 8 ≤ length bytes → (i : ℕ) → i < 8 → get_or loaded i 0 ≡ bits_number 8 (λ bit. word_bit (get_or words k 0) (8 * i + bit))
  its_own is within i lt =
      at i lt ∙ (ap (λ (bs : List ℕ). get_or bs (8 * k + i) 0) is ∙ (byte-bits_bytes (length bytes) (words_bit words) (8 * k + i) (omega (arith, lt, within)) ∙ sym (bits i lt)))
