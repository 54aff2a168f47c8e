-- Images while an empty one is made.
use Rattle.std.specs.Prelude.{◌-◌, ◌≡◌, ◌≢◌, ◌⊎◌, ℕ, ◌≤◌, ◌<◌, List, drop, slice_index}
use Rattle.lis_limits.specs.declared.TheConstants.{BLOCK_LEN}
use Rattle.lis_ports.specs.Meaning.{Meaning}
use Rattle.lis_ports.specs.Bytes.{part}
use Rattle.lis_journal.specs.Record.{block}
use Rattle.lis_fields.specs.Layouts.{zeros, super_bytes}
use Rattle.lis_model.specs.declared.limits.Limits.{Limits}
use Rattle.lis_model.specs.Image.{data_start, properties_start}
use Rattle.lis_model.specs.State.{State, empty_state}
use Rattle.lis_store.specs.Stands.{Stands}
use Rattle.lis_store.specs.Blank.{IsBlank}

abbrev pub Same : List ℕ → List ℕ → Type 0
Same from image = image ≡ from

abbrev pub first_byte : List ℕ → ℕ
first_byte image = slice_index (part 0 1 image) 0

-- It does not begin with an L, as each super block does.
abbrev pub IsNameless : List ℕ → Type 0
IsNameless image = first_byte image ≢ 76

-- it is as it was, or begins with another byte
abbrev pub IsSpared : List ℕ → List ℕ → Type 0
IsSpared bytes image = (image ≡ bytes) ⊎ IsNameless image

-- the blocks from `first` up to `end` are zeros
abbrev pub AreZeros : ℕ → ℕ → List ℕ → Type 0
AreZeros first end image = (n : ℕ) → first ≤ n → n < end → block n image ≡ zeros BLOCK_LEN

-- the super block, except its first byte
unfoldable pub rest_of_super : Limits → List ℕ
rest_of_super limits = drop 1 (super_bytes limits)

-- all of an empty image but the first byte, with zeros in all of the gate block
pub record IsWiped (limits : Limits) (image : List ℕ) : Type 0 where
  pub rest : part 1 (BLOCK_LEN - 1) image ≡ rest_of_super limits
  pub blank : IsBlank limits image
  pub zero : block 1 image ≡ zeros BLOCK_LEN

-- a block that making leaves alone: one of the records, a data block, or one past the image
abbrev pub IsSpare : Limits → ℕ → Type 0
IsSpare limits n = ((2 ≤ n) × (n < properties_start limits)) ⊎ (data_start limits ≤ n)

abbrev pub KeepsSpare : Limits → List ℕ → List ℕ → Type 0
KeepsSpare limits bytes image = (n : ℕ) → IsSpare limits n → block n image ≡ block n bytes

-- the first byte and the blocks that making leaves alone are as before
pub record IsWiping (limits : Limits) (from image : List ℕ) : Type 0 where
  pub first : part 0 1 image ≡ part 0 1 from
  pub spare : KeepsSpare limits from image

-- What making leaves: the super block, zeros in the gate block and in the home blocks before the data blocks, and every other block as it
-- was.
pub record IsMade (limits : Limits) (bytes image : List ℕ) : Type 0 where
  pub super : block 0 image ≡ super_bytes limits
  pub gate : block 1 image ≡ zeros BLOCK_LEN
  pub homes : AreZeros (properties_start limits) (data_start limits) image
  pub spare : KeepsSpare limits bytes image

-- it is as it was, or represents the empty state or no state
abbrev pub IsMaking : Limits → List ℕ → List ℕ → Type 0
IsMaking limits bytes image = (image ≡ bytes) ⊎ (Stands image (empty_state limits) ⊎ ((s : State) → Stands image s → ⊥))

-- and the blocks that making leaves alone are as they were
pub record InMaking (limits : Limits) (bytes image : List ℕ) : Type 0 where
  pub stands : IsMaking limits bytes image
  pub spare : KeepsSpare limits bytes image

-- a crash leaves the block as it reads
abbrev pub IsSettledAt : Meaning → ℕ → Type 0
IsSettledAt m n = (image : List ℕ) → m.images image → block n image ≡ block n m.bytes
