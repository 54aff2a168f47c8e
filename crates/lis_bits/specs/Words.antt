-- What the loops over the words of rows do. No public clause cites this module.
use Rattle.std.specs.Prelude.{◌≡◌, ℕ, ◌+◌, ◌*◌, ◌/◌, ◌%◌, ◌<◌, ◌≤◌, ◌⊎◌, Bool, true, false, nat_eq, List, slice_index}
use Rattle.std.specs.Int.{bit_at}
use Rattle.lis_bits.specs.Bytes.{bits_number}

-- each of the words from `to` on becomes what `op` gives of it and of the word at the same distance from `from`, and the other words stay
pub record Joins (op : ℕ → ℕ → ℕ → Type 0) (old new : List ℕ) (to from width : ℕ) : Type 0 where
  pub joined : (i : ℕ) → i < width → op (slice_index old (to + i)) (slice_index old (from + i)) (slice_index new (to + i))
  pub others : (k : ℕ) → (k < to) ⊎ (to + width ≤ k) → slice_index new k ≡ slice_index old k

-- each of the words from `to` on becomes what `op` gives of it and of the other word of the same index, and the words before
-- and after them stay
pub record JoinsWith (op : ℕ → ℕ → ℕ → Type 0) (old new : List ℕ) (to : ℕ) (others : List ℕ) (width : ℕ) : Type 0 where
  pub joined : (i : ℕ) → i < width → op (slice_index old (to + i)) (slice_index others i) (slice_index new (to + i))
  pub around : (k : ℕ) → (k < to) ⊎ (to + width ≤ k) → slice_index new k ≡ slice_index old k

-- the two runs of words are one, or have no word in common
abbrev pub AreApart : ℕ → ℕ → ℕ → Type 0
AreApart to from width = (from ≡ to) ⊎ ((from + width ≤ to) ⊎ (to + width ≤ from))

-- a bit of a word, as a truth value
abbrev pub word_bit : ℕ → ℕ → Bool
word_bit word bit = nat_eq (bit_at word bit) 1

-- no bit of the word from `start` on is 1
abbrev pub NoneNextIn : ℕ → ℕ → Type 0
NoneNextIn word start = (k : ℕ) → start ≤ k → k < 64 → word_bit word k ≡ false

-- this is the least bit of the word from `start` on that is 1
pub record IsNextIn (word start bit : ℕ) : Type 0 where
  pub from : start ≤ bit
  pub in_word : bit < 64
  pub set : word_bit word bit ≡ true
  pub none_before : (k : ℕ) → start ≤ k → k < bit → word_bit word k ≡ false

-- a bit of the words
abbrev pub words_bit : List ℕ → ℕ → Bool
words_bit words bit = word_bit (slice_index words (bit / 64)) (bit % 64)

-- none of the first bits is true from `start` on
abbrev pub NoneNextFrom : (ℕ → Bool) → ℕ → ℕ → Type 0
NoneNextFrom value bits start = (k : ℕ) → start ≤ k → k < bits → value k ≡ false

-- this is the least of the first bits from `start` on that is true
pub record IsNextFrom (value : ℕ → Bool) (bits start bit : ℕ) : Type 0 where
  pub from : start ≤ bit
  pub in_words : bit < bits
  pub set : value bit ≡ true
  pub none_before : (k : ℕ) → start ≤ k → k < bit → value k ≡ false

-- each of the first bytes has eight bits of the words
abbrev pub HasBytes : List ℕ → List ℕ → ℕ → Type 0
HasBytes words bytes count = (j : ℕ) → j < count → slice_index bytes j ≡ bits_number 8 (λ i. words_bit words (8 * j + i))
