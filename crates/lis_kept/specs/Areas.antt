-- The parts of an image that memory spells, and the blocks that are yet to be written.
use Rattle.std.specs.Prelude.{◌-◌, ◌≡◌, ℕ, ◌+◌, ◌*◌, ◌/◌, ◌<◌, ◌==◌, false, Bool, if◌then◌else◌, List, count_by}
use Rattle.lis_limits.specs.declared.TheConstants.{AXIOMS_PER_BLOCK, AXIOM_LEN, BLOCK_BITS, BLOCK_LEN, FILE_LEN, PROP_LEN, SET_LEN}
use Rattle.lis_ext.specs.Ext.{set_of}
use Rattle.lis_slots.specs.Slots.{Slots, slot, home}
use Rattle.lis_blockmap.specs.Bitmap.{is_taken, bitmap_bytes}
use Rattle.lis_kept.specs.Rows.{row_bytes}
use Rattle.lis_fields.specs.Layouts.{prop_bytes, axiom_bytes, file_bytes, set_bytes}
use Rattle.lis_model.specs.declared.limits.Limits.{Limits}
use Rattle.lis_model.specs.Image.{properties_start, axioms_start, files_start, descriptions_start, description_blocks, bitmap_start, bitmap_blocks}
use Rattle.lis_kept.specs.Metadata.{Metadata, property_at, axiom_at, record_at}

pub data Area : Type 0 where
  Properties : Area
  Axioms : Area
  Files : Area
  Rows : Area
  Sets : Area
  Bitmap : Area

abbrev pub property_slots : Limits → Slots
property_slots limits = record { first = properties_start limits; count = limits.props; width = PROP_LEN }

-- slots of whole blocks: those past the last number stay free
abbrev pub axiom_slots : Limits → Slots
axiom_slots limits = record { first = axioms_start limits; count = AXIOMS_PER_BLOCK * ((limits.props + (AXIOMS_PER_BLOCK - 1)) / AXIOMS_PER_BLOCK); width = AXIOM_LEN }

abbrev pub file_slots : Limits → Slots
file_slots limits = record { first = files_start limits; count = limits.files; width = FILE_LEN }

-- Versions 1 and 2 have rows, as many as whole blocks have, and no sets. Rows past the last number have no bit.
unfoldable pub row_count : Limits → ℕ
row_count limits = if limits.version == 3 then 0 else (BLOCK_LEN / (limits.files / 8)) * description_blocks limits

-- version 3 has sets, one for each file slot, and no rows
unfoldable pub set_count : Limits → ℕ
set_count limits = if limits.version == 3 then limits.files else 0

abbrev pub row_slots : Limits → Slots
row_slots limits = record { first = descriptions_start limits; count = row_count limits; width = limits.files / 8 }

abbrev pub set_slots : Limits → Slots
set_slots limits = record { first = descriptions_start limits; count = set_count limits; width = SET_LEN }

abbrev pub bitmap_slots : Limits → Slots
bitmap_slots limits = record { first = bitmap_start limits; count = bitmap_blocks limits; width = BLOCK_LEN }

-- the block of the bitmap that has the bit of a data block
abbrev pub bitmap_home : Limits → ℕ → ℕ
bitmap_home limits data_block = bitmap_start limits + data_block / BLOCK_BITS

abbrev pub slots_of : Limits → Area → Slots
slots_of limits Properties = property_slots limits
slots_of limits Axioms = axiom_slots limits
slots_of limits Files = file_slots limits
slots_of limits Rows = row_slots limits
slots_of limits Sets = set_slots limits
slots_of limits Bitmap = bitmap_slots limits

-- the block of a slot
abbrev pub block_of : Limits → Area → ℕ → ℕ
block_of limits area n = home (slots_of limits area) n

-- the block that shows whether the file in a slot has a number
abbrev pub description_home : Limits → ℕ → ℕ → ℕ
description_home limits slot number = if limits.version == 3 then block_of limits Sets slot else block_of limits Rows number

-- the bytes that memory gives a slot
abbrev pub spelled : Metadata → Area → ℕ → List ℕ
spelled k Properties n = prop_bytes (property_at k.dict k.declared n)
spelled k Axioms n = axiom_bytes (axiom_at k.axioms n)
spelled k Files n = file_bytes k.limits.version (record_at k.catalog n)
spelled k Rows n = row_bytes k.ext n
spelled k Sets n = set_bytes (set_of k.ext n)
spelled k Bitmap n = bitmap_bytes n k.taken

-- the bytes of a slot, by what each block holds; a slot of the bitmap is a whole block
abbrev pub held_in : Limits → Area → (ℕ → List ℕ) → ℕ → List ℕ
held_in limits Properties at n = slot (property_slots limits) at n
held_in limits Axioms at n = slot (axiom_slots limits) at n
held_in limits Files at n = slot (file_slots limits) at n
held_in limits Rows at n = slot (row_slots limits) at n
held_in limits Sets at n = slot (set_slots limits) at n
held_in limits Bitmap at n = at (bitmap_start limits + n)

-- each block of the bitmap shows which data blocks are taken
abbrev pub AreBitmapBlocks : Limits → (ℕ → List ℕ) → List Bool → Type 0
AreBitmapBlocks limits at taken = (n : ℕ) → n < bitmap_blocks limits → at (bitmap_start limits + n) ≡ bitmap_bytes n taken

-- every slot is spelled by what memory keeps
abbrev pub IsWritten : Metadata → (ℕ → List ℕ) → Type 0
IsWritten k at = (area : Area) (n : ℕ) → n < (slots_of k.limits area).count → held_in k.limits area at n ≡ spelled k area n

abbrev pub is_marked : Metadata → ℕ → Bool
is_marked k block = is_taken k.marks block

-- every slot is, except in blocks that are yet to be written
abbrev pub IsSaved : Metadata → (ℕ → List ℕ) → Type 0
IsSaved k at =
    (area : Area) (n : ℕ) → n < (slots_of k.limits area).count → is_marked k (block_of k.limits area n) ≡ false
    → held_in k.limits area at n ≡ spelled k area n

-- how many blocks are yet to be written
abbrev pub marked_count : Metadata → ℕ
marked_count k = count_by (λ (b : Bool). b) k.marks
