-- Slots of equal width in consecutive blocks.
use Rattle.std.specs.Prelude.{◌≡◌, ℕ, ◌+◌, ◌*◌, ◌/◌, ◌%◌, ◌==◌, false, if◌then◌else◌, List, length, Result, Ok, Err}
use Rattle.lis_limits.specs.declared.TheConstants.{BLOCK_LEN}
use Rattle.lis_ports.specs.Meaning.{Meaning}
use Rattle.lis_ports.specs.Bytes.{part}
use Rattle.lis_journal.specs.Journal.{Held}
use Rattle.lis_journal.specs.Images.{Fits, look}
use Rattle.lis_journal.specs.Staging.{with_entry}
use Rattle.lis_journal.specs.Phases.{looked}

-- the first block, how many slots there are, and how many bytes each has
pub record Slots : Type 0 where
  pub first : ℕ
  pub count : ℕ
  pub width : ℕ

-- how many slots a block has
abbrev pub per_block : Slots → ℕ
per_block s = BLOCK_LEN / s.width

-- the block of slot k
abbrev pub home : Slots → ℕ → ℕ
home s k = s.first + k / per_block s

-- where in its block slot k begins
abbrev pub place : Slots → ℕ → ℕ
place s k = s.width * (k % per_block s)

-- slot k, by what each block has
abbrev pub slot : Slots → (ℕ → List ℕ) → ℕ → List ℕ
slot s at k = part (place s k) s.width (at (home s k))

-- The block of slot k is staged. By what is then staged and kept, slot k has these bytes, and every other slot has what it had.
pub record SlotPut (s : Slots) (k : ℕ) (bytes : List ℕ) (old new : Held) (m : Meaning) : Type 0 where
  pub content : List ℕ
  pub whole : length content ≡ BLOCK_LEN
  pub staged : new ≡ record old { staged = with_entry old.staged (home s k) content }
  pub slots : (kept : ℕ → List ℕ) → Fits old m kept → (j : ℕ)
      → slot s (looked new.staged kept) j ≡ (if j == k then bytes else slot s (looked old.staged kept) j)
  -- every other block stays, staged or not
  pub others : (n : ℕ) (was : List ℕ) → (n == home s k) ≡ false → look new.staged n was ≡ look old.staged n was

-- a put into a journal: the slot is put, or at a fault nothing is
abbrev pub PutEnded : {T E : Type 0} → Slots → ℕ → List ℕ → Held → Held → Meaning → Result T E → Type 0
PutEnded s k bytes old new m (Ok done) = SlotPut s k bytes old new m
PutEnded s k bytes old new m (Err failed) = new ≡ old
