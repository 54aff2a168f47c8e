-- The bitmap as it is read, a block at a time.
use Rattle.lis_open.proofs.Common.{◌≡◌, ◌∙◌, sym, ap, ap₂, subst, inl, inr, ℕ, ◌+◌, ◌*◌, ◌<◌, ◌/◌, Bool, List, arith, below_more, cases_lt, has_bit, is_taken, Limits, bitmap_start}
use Rattle.std.proofs.Common.{◌%◌}
use Rattle.lis_blockmap.specs.Bitmap.{IsFirstDifference, bitmap_bytes}
use Rattle.lis_blockmap.proofs.Laws.{has_bit-bitmap_bytes}
use Rattle.lis_model.specs.Image.{bitmap_blocks}
use Rattle.lis_open.specs.Checks.{has_bitmap_bit}
use Rattle.lis_open.specs.ReadAll.{IsFirstBit}

module _ (limits : Limits) (at : ℕ → List ℕ) where
  -- a bit of the bitmap, by its block
  bit_placed : (n bit : ℕ) → bit < 32768 → has_bitmap_bit limits at (32768 * n + bit) ≡ has_bit (at (bitmap_start limits + n)) bit
  bit_placed n bit lt =
      let there : (32768 * n + bit) / 32768 ≡ n = omega (arith, lt) in
      let place : (32768 * n + bit) % 32768 ≡ bit = omega (arith, lt) in
      ap₂ (λ k i. has_bit (at (bitmap_start limits + k)) i) there place

  -- it is as its data block, if its block is spelled so
  pub bit_spelled : (taken : List Bool) (n : ℕ) → at (bitmap_start limits + n / 32768) ≡ bitmap_bytes (n / 32768) taken → has_bitmap_bit limits at n ≡ is_taken taken n
  bit_spelled taken n is =
      let place : 32768 * (n / 32768) + n % 32768 ≡ n = omega arith in
      ap (λ bytes. has_bit bytes (n % 32768)) is ∙ (has_bit-bitmap_bytes (n / 32768) taken (n % 32768) (omega arith) ∙ ap (is_taken taken) place)

  -- the first bit of all that is not, if the blocks before its block are spelled so
  pub first_bit : (taken : List Bool) (n bit : ℕ) → n < bitmap_blocks limits → ((m : ℕ) → m < n → at (bitmap_start limits + m) ≡ bitmap_bytes m taken)
      → IsFirstDifference n (at (bitmap_start limits + n)) taken bit → IsFirstBit limits at taken (32768 * n + bit)
  first_bit taken n bit below before first = record {
    below = omega (arith, below, first.within);
    here = λ same. first.here (sym (bit_placed n bit first.within) ∙ same);
    none_before = λ m lt. elim (cases_lt (m / 32768) n) [
      | inl earlier ↦ bit_spelled taken m (before (m / 32768) earlier)
      | inr past ↦
          let place : 32768 * n + m % 32768 ≡ m = omega (arith, lt, past, first.within) in
          subst (λ k. has_bitmap_bit limits at k ≡ is_taken taken k) place
          (bit_placed n (m % 32768) (omega arith) ∙ first.none_before (m % 32768) (omega (arith, lt, past, first.within)))
    ];
  }

-- one block more is spelled so
pub spelled_more : (limits : Limits) (at : ℕ → List ℕ) (taken : List Bool) (n : ℕ) → ((m : ℕ) → m < n → at (bitmap_start limits + m) ≡ bitmap_bytes m taken) → at (bitmap_start limits + n) ≡ bitmap_bytes n taken
    → (m : ℕ) → m < n + 1 → at (bitmap_start limits + m) ≡ bitmap_bytes m taken
spelled_more limits at taken n before here m lt = below_more _ _ before here m lt
