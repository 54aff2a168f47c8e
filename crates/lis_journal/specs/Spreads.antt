-- A run of disk calls, by what it makes of each image.
use Rattle.std.specs.Prelude.{◌≡◌, ◌⊎◌, ℕ, ◌*◌, ◌+◌, ◌≤◌, List, [], ◌∷◌, length}
use Rattle.lis_limits.specs.declared.TheConstants.{BLOCK_LEN}
use Rattle.lis_ports.specs.Meaning.{Meaning}
use Rattle.lis_ports.specs.Bytes.{part}
use Rattle.lis_ports.specs.Runs.{Leaves}
use Rattle.lis_journal.specs.declared.layout.Layout.{Layout}
use Rattle.lis_journal.specs.Record.{HomeBlock, block, behind_gates}

-- Each image, at each moment and at the end, and the bytes as they read at the end, come from one of before by R.
pub record Spreads (old new : Meaning) (R : List ℕ → List ℕ → Type 0) : Type 0 where
  pub moments : Leaves old new (λ image. (from : List ℕ) × old.images from × R from image)
  pub images : (image : List ℕ) → new.images image → (from : List ℕ) × old.images from × R from image
  pub reads : (from : List ℕ) × (old.images from ⊎ (from ≡ old.bytes)) × R from new.bytes

-- A run that reads: the bytes stay, and each image, at each moment and at the end, is one of before.
pub record IsQuiet (old new : Meaning) : Type 0 where
  pub bytes : new.bytes ≡ old.bytes
  pub images : (image : List ℕ) → new.images image → old.images image
  pub moments : Leaves old new old.images

-- the range is clear of the blocks of these entries
abbrev pub IsClear : List HomeBlock → ℕ → ℕ → Type 0
IsClear [] at n = Unit {0}
IsClear (e ∷ entries) at n = ((at + n ≤ BLOCK_LEN * e.home) ⊎ (BLOCK_LEN * e.home + BLOCK_LEN ≤ at)) × IsClear entries at n

-- the same bytes in each range that is clear of the blocks of these entries
pub record Touched (entries : List HomeBlock) (old new : List ℕ) : Type 0 where
  pub len : length new ≡ length old
  pub clear : (at n : ℕ) → IsClear entries at n → part at n new ≡ part at n old

-- the same bytes from this block on
abbrev pub SamePast : ℕ → List ℕ → List ℕ → Type 0
SamePast blocks old new = (n : ℕ) → blocks ≤ n → block n new ≡ block n old

-- the same bytes after the image, and in the journal after the gates
pub record SameAround (layout : Layout) (old new : List ℕ) : Type 0 where
  pub past : SamePast layout.blocks old new
  pub rest : behind_gates layout new ≡ behind_gates layout old
