-- A row after its words were joined with those of another.
use Rattle.std.proofs.Common.{◌≡◌, ℕ, ◌+◌, ◌*◌, ◌/◌, ◌%◌, ◌^◌, ◌<◌, ◌≤◌, ◌⊎◌, inl, inr, ◌==◌, if◌then◌else◌, min, ◌-◌, Bool, false, List, [], length, get_or, set, replicate, Some, unwrap_or, sym, ap, ◌∙◌, arith, eq-eqb, get_or-set_same, get_or-set_other}
use Rattle.std.proofs.lemmas.Bool.{cases_eq, ne_eqb}
use Rattle.lis_region.specs.Region.{Region, get, with_frame, empty_region}
use Rattle.lis_region.proofs.Frames.{refill_same, frame_in_range, get-with_frame_same}
use Rattle.std.specs.List.{refill}
use Rattle.lis_bits.specs.Rows.{row_of, with_row, one_more, empty_rows}
use Rattle.lis_bits.specs.Words.{word_bit}
use Rattle.lis_bits.specs.Inside.{bit_from, rows_of, words_of, seen, IsBitwise}
use Rattle.lis_bits.proofs.View.{row_same, get-rows_of, rows_written, rows_of-zero}

-- the words of a frame that was lent
pub words_lent : (r : Region ℕ) (frame : ℕ) (old new : List ℕ) → get r frame ≡ Some old → length old ≡ r.width → length new ≡ length old
    → words_of (with_frame r frame (Some (refill r.width (words_of r frame) new))) frame ≡ new
words_lent r frame old new some long same =
    let was = ap (λ o. unwrap_or o []) some in
    ap (λ o. unwrap_or o []) (get-with_frame_same r frame (Some (refill r.width (words_of r frame) new)) (frame_in_range r frame old some))
    ∙ refill_same r.width (words_of r frame) new (ap length was ∙ long) (same ∙ long)

-- the words of a row were joined with words that show as other truth values
module _ (old new : List ℕ) (rows width to : ℕ) (op : ℕ → ℕ → ℕ → Type 0) (join : Bool → Bool → Bool) (other : ℕ → ℕ) (shown : ℕ → Bool)
    (to_in : to < rows) (fit : (i : ℕ) → get_or old i 0 < 2 ^ 64) (other_fits : (i : ℕ) → other i < 2 ^ 64)
    (joined : (i : ℕ) → i < width → op (get_or old (to * width + i) 0) (other i) (get_or new (to * width + i) 0))
    (others : (k : ℕ) → (k < to * width) ⊎ (to * width + width ≤ k) → get_or new k 0 ≡ get_or old k 0) (bitwise : IsBitwise join op)
    (same : (bit : ℕ) → bit < 64 * width → shown bit ≡ word_bit (other (bit / 64)) (bit % 64)) where
  joined_value : ℕ → Bool
  joined_value bit = join (bit_from old (to * width) bit) (word_bit (other (bit / 64)) (bit % 64))

  word_written : (i bit : ℕ) → i < width → bit < 64 → word_bit (get_or new (to * width + i) 0) bit ≡ joined_value (64 * i + bit)
  unfolding joined_value
  word_written i bit lt in_word =
      let place : (64 * i + bit) / 64 ≡ i = omega arith in
      let rest : (64 * i + bit) % 64 ≡ bit = omega arith in
      rw (place, rest) (bitwise (get_or old (to * width + i) 0) (other i) (get_or new (to * width + i) 0) (fit _) (other_fits i) (joined i lt) bit in_word)

  pub rows_joined : rows_of new rows width ≡ set (rows_of old rows width) to (row_of (64 * width) (λ bit. join (get_or (get_or (rows_of old rows width) to []) bit false) (shown bit)))
  unfolding joined_value
  rows_joined = rows_written old new rows width to joined_value to_in word_written others
      ∙ ap (λ row. set (rows_of old rows width) to row) (row_same (64 * width) joined_value (λ bit. join (get_or (get_or (rows_of old rows width) to []) bit false) (shown bit))
      (λ b lt. rw (get-rows_of old rows width to b to_in lt, same b lt)))

-- the value in contracts after a row's words were written in the lent frame
pub seen_written : (r : Region ℕ) (frame rows width row edits edits' : ℕ) (value : ℕ → Bool) (old new : List ℕ) → get r frame ≡ Some old → length old ≡ r.width → length new ≡ length old
    → rows_of new rows width ≡ set (rows_of old rows width) row (row_of (64 * width) value) → edits < 2 ^ 64 → edits' ≡ min (edits + 1) (2 ^ 64 - 1)
    → seen (with_frame r frame (Some (refill r.width (words_of r frame) new))) frame rows width edits' ≡ with_row (seen r frame rows width edits) row value
seen_written r frame rows width row edits edits' value old new some long same written fits counted =
    let one : edits' ≡ one_more edits = omega arith in
    let was = ap (λ o. unwrap_or o []) some in
    let lent = words_lent r frame old new some long same in
    let after = ap (λ words. rows_of words rows width) lent ∙ (written ∙ ap (λ words. set (rows_of words rows width) row (row_of (64 * width) value)) (sym was)) in
    ap (λ rows. record { bits = 64 * width; rows = rows; edits = edits' }) after ∙ ap (λ n. record { bits = 64 * width; rows = set (rows_of (words_of r frame) rows width) row (row_of (64 * width) value); edits = n }) one

-- the value of new rows in contracts
pub seen_new : (made r : Region ℕ) (frame rows bits : ℕ) → made ≡ empty_region 1 (rows * (bits / 64)) 0 → r ≡ with_frame made frame (Some (replicate made.width made.fill)) → frame < length made.frames → bits % 64 ≡ 0
    → seen r frame rows (bits / 64) 0 ≡ empty_rows rows bits
seen_new made r frame rows bits begins taken in_range whole =
    let zeros : List ℕ = replicate (rows * (bits / 64)) 0 in
    let fresh : replicate made.width made.fill ≡ zeros = rw begins in
    let words : words_of r frame ≡ zeros = rw taken (ap (λ o. unwrap_or o []) (get-with_frame_same made frame (Some (replicate made.width made.fill)) in_range) ∙ fresh) in
    let bits_same : 64 * (bits / 64) ≡ bits = omega arith in
    ap (λ ws. record { bits = 64 * (bits / 64); rows = rows_of ws rows (bits / 64); edits = 0 }) words
    ∙ (ap (λ rs. record { bits = 64 * (bits / 64); rows = rs; edits = 0 }) (rows_of-zero rows (bits / 64)) ∙ ap (λ n. empty_rows rows n) bits_same)

-- ---- one bit is set
module _ (old : List ℕ) (rows width row bit word : ℕ) (value : Bool) (in_rows : row < rows) (in_row : bit < 64 * width) (in_words : row * width + bit / 64 < length old)
    (bits : (k : ℕ) → k < 64 → word_bit word k ≡ (if k == bit % 64 then value else word_bit (get_or old (row * width + bit / 64) 0) k)) where
  same_test : (k : ℕ) → k < 64 → (k == bit % 64) ≡ (64 * (bit / 64) + k == bit)
  same_test k l = elim (cases_eq k (bit % 64)) [ inl e ↦ eq-eqb k (bit % 64) e ∙ sym (eq-eqb (64 * (bit / 64) + k) bit (omega arith)) | inr d ↦ ne_eqb k (bit % 64) d ∙ sym (ne_eqb (64 * (bit / 64) + k) bit (omega arith)) ]

  put_word : (i b : ℕ) → i < width → b < 64 → word_bit (get_or (set old (row * width + bit / 64) word) (row * width + i) 0) b ≡ (if 64 * i + b == bit then value else bit_from old (row * width) (64 * i + b))
  put_word i b lt in_word = go (cases_eq i (bit / 64))
    where
      place : (64 * i + b) / 64 ≡ i
      place = omega arith

      rest : (64 * i + b) % 64 ≡ b
      rest = omega arith

      go : (i ≡ bit / 64) ⊎ (i ≡ bit / 64 → ⊥) → word_bit (get_or (set old (row * width + bit / 64) word) (row * width + i) 0) b ≡ (if 64 * i + b == bit then value else bit_from old (row * width) (64 * i + b))
      go (inl same) = rw (place, rest, same, get_or-set_same old (row * width + bit / 64) word 0 in_words) (bits b in_word ∙ ap (λ t. if t then value else word_bit (get_or old (row * width + bit / 64) 0) b) (same_test b in_word))
      go (inr differ) = rw (place, rest, ne_eqb (64 * i + b) bit (omega arith), get_or-set_other old (row * width + bit / 64) (row * width + i) word 0 (omega arith))

  put_other : (k : ℕ) → (k < row * width) ⊎ (row * width + width ≤ k) → get_or (set old (row * width + bit / 64) word) k 0 ≡ get_or old k 0
  put_other k (inl below) = get_or-set_other old (row * width + bit / 64) k word 0 (omega arith)
  put_other k (inr above) = get_or-set_other old (row * width + bit / 64) k word 0 (omega arith)

  pub rows_put : rows_of (set old (row * width + bit / 64) word) rows width ≡ set (rows_of old rows width) row (row_of (64 * width) (λ k. if k == bit then value else get_or (get_or (rows_of old rows width) row []) k false))
  rows_put = rows_written old (set old (row * width + bit / 64) word) rows width row (λ k. if k == bit then value else bit_from old (row * width) k) in_rows put_word put_other
      ∙ ap (λ r. set (rows_of old rows width) row r) (row_same (64 * width) (λ k. if k == bit then value else bit_from old (row * width) k) (λ k. if k == bit then value else get_or (get_or (rows_of old rows width) row []) k false)
      (λ b lt. rw (get-rows_of old rows width row b in_rows lt)))
