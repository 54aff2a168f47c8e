-- The flags that a contract sees: one row of the truth values of their words.
use Rattle.std.proofs.Common.{◌≡◌, ◌≢◌, ◌⊎◌, ℕ, ◌*◌, ◌/◌, ◌%◌, ◌<◌, ◌≤◌, ◌==◌, if◌then◌else◌, max, Bool, false, List, length, get_or, set, replicate, inl, inr, refl, sym, ap, ◌∙◌, arith, eq-eqb, length-set, get_or-set_same, get_or-set_other}
use Rattle.std.proofs.lemmas.List.{get_or-replicate, length-replicate, get_or_past}
use Rattle.std.proofs.lemmas.List.FromFn.{fill_by_all}
use Rattle.std.proofs.lemmas.Bool.{cases_eq, cases_lt, ne_eqb}
use Rattle.lis_bits.specs.Rows.{row_of}
use Rattle.lis_bits.specs.Words.{word_bit, words_bit, NoneNextFrom}
use Rattle.lis_bits.proofs.Bits.{zero_bit}
use Rattle.lis_bits.proofs.View.{get-row_of, length-row_of}

-- a row of these truth values is a list that has them
row_is : (bits : ℕ) (value : ℕ → Bool) (flags : List Bool) → length flags ≡ bits → ((k : ℕ) → k < bits → get_or flags k false ≡ value k) → row_of bits value ≡ flags
unfolding row_of
row_is bits value flags long at = sym (fill_by_all value flags bits false long at)

-- a flag past the end of the words
pub bit_past : (words : List ℕ) (k : ℕ) → length words ≤ k / 64 → words_bit words k ≡ false
bit_past words k past = ap (λ word. word_bit word (k % 64)) (get_or_past words (k / 64) 0 past) ∙ zero_bit (k % 64)

-- ---- the flags of words
module _ (bits : ℕ) (words : List ℕ) (flags : List Bool) (is : row_of bits (words_bit words) ≡ flags) where
  pub flags_many : length flags ≡ bits
  flags_many = ap length (sym is) ∙ length-row_of bits (words_bit words)

  pub flag_at : (k : ℕ) → k < length flags → get_or flags k false ≡ words_bit words k
  flag_at k lt = ap (λ fs. get_or fs k false) (sym is) ∙ get-row_of bits (words_bit words) k (omega (arith, flags_many))

  pub flags_put : (new : List ℕ) (number : ℕ) (value : Bool) → number < length flags → ((k : ℕ) → words_bit new k ≡ (if k == number then value else words_bit words k)) → row_of bits (words_bit new) ≡ set flags number value
  flags_put new number value lt put = row_is bits (words_bit new) (set flags number value) (length-set flags number value ∙ flags_many) (λ k in_row. at k (omega (arith, flags_many)) (cases_eq k number))
    where
      at : (k : ℕ) → k < length flags → (k ≡ number) ⊎ (k ≡ number → ⊥) → get_or (set flags number value) k false ≡ words_bit new k
      at k in_row (inl same) = rw same (get_or-set_same flags number value false lt) ∙ sym (put k ∙ ap (λ t. if t then value else words_bit words k) (eq-eqb k number same))
      at k in_row (inr differ) = get_or-set_other flags number k value false differ
          ∙ (flag_at k in_row ∙ sym (put k ∙ ap (λ t. if t then value else words_bit words k) (ne_eqb k number differ)))

  pub flags_none : (start : ℕ) → NoneNextFrom (words_bit words) (64 * length words) start → (k : ℕ) → start ≤ k → k < length flags → get_or flags k false ≡ false
  flags_none start none k from lt = flag_at k lt ∙ by (cases_lt k (64 * length words))
    where
      by : (k < 64 * length words) ⊎ (64 * length words ≤ k) → words_bit words k ≡ false
      by (inl in_words) = none k from in_words
      by (inr past) = bit_past words k (omega arith)

-- flags that are all alike
pub flags_alike : (bits : ℕ) (words : List ℕ) (value : Bool) → ((k : ℕ) → k < bits → words_bit words k ≡ value) → row_of bits (words_bit words) ≡ replicate bits value
flags_alike bits words value alike = row_is bits (words_bit words) (replicate bits value) (length-replicate bits value)
    (λ k lt. get_or-replicate bits k value false lt ∙ sym (alike k lt))

-- zeros at the end of the words change no flag
pub zeros_added : (old new : List ℕ) (len : ℕ) → length new ≡ max (length old) len → ((k : ℕ) → k < length old → get_or new k 0 ≡ get_or old k 0) → ((k : ℕ) → length old ≤ k → k < len → get_or new k 0 ≡ 0) → (k : ℕ) → words_bit new k ≡ words_bit old k
zeros_added old new len long same added k = by (cases_lt (k / 64) (length old)) (cases_lt (k / 64) len)
  where
    by : (k / 64 < length old) ⊎ (length old ≤ k / 64) → (k / 64 < len) ⊎ (len ≤ k / 64) → words_bit new k ≡ words_bit old k
    by (inl lt) _ = ap (λ word. word_bit word (k % 64)) (same (k / 64) lt)
    by (inr past) (inl lt) = (ap (λ word. word_bit word (k % 64)) (added (k / 64) past lt) ∙ zero_bit (k % 64)) ∙ sym (bit_past old k past)
    by (inr past) (inr ends) = bit_past new k (omega arith) ∙ sym (bit_past old k past)

-- one bit is set
pub bit_put : (words : List ℕ) (number word : ℕ) (value : Bool) → number / 64 < length words → ((k : ℕ) → k < 64 → word_bit word k ≡ (if k == number % 64 then value else word_bit (get_or words (number / 64) 0) k))
    → (k : ℕ) → words_bit (set words (number / 64) word) k ≡ (if k == number then value else words_bit words k)
bit_put words number word value lt bits k = by (cases_eq (k / 64) (number / 64)) (cases_eq (k % 64) (number % 64))
  where
    other : k ≢ number → word_bit (get_or (set words (number / 64) word) (k / 64) 0) (k % 64) ≡ words_bit words k → words_bit (set words (number / 64) word) k ≡ (if k == number then value else words_bit words k)
    other differ is = rw (ne_eqb k number differ) is

    by : (k / 64 ≡ number / 64) ⊎ (k / 64 ≢ number / 64) → (k % 64 ≡ number % 64) ⊎ (k % 64 ≢ number % 64) → words_bit (set words (number / 64) word) k ≡ (if k == number then value else words_bit words k)
    by (inl place) (inl rest) = rw (eq-eqb k number (omega arith), place, get_or-set_same words (number / 64) word 0 lt) (bits (k % 64) (omega arith) ∙ rw (eq-eqb (k % 64) (number % 64) rest) refl)
    by (inl place) (inr differ) = other (omega arith) (rw (place, get_or-set_same words (number / 64) word 0 lt) (bits (k % 64) (omega arith) ∙ rw (ne_eqb (k % 64) (number % 64) differ) refl))
    by (inr differ) _ = other (omega arith) (ap (λ word. word_bit word (k % 64)) (get_or-set_other words (number / 64) (k / 64) word 0 differ))

-- a flag past the end of the words is false already
pub put_past : (words : List ℕ) (number : ℕ) (value : Bool) → length words ≤ number / 64 → value ≡ false → (k : ℕ) → words_bit words k ≡ (if k == number then value else words_bit words k)
put_past words number value past unset k = elim (cases_eq k number) [
  | inl same ↦ rw (eq-eqb k number same, same) (bit_past words number past ∙ sym unset)
  | inr differ ↦ rw (ne_eqb k number differ) refl
]
