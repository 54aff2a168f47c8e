-- The parts of an image, in blocks of 4,096 bytes: the super block, the gate block and the blocks of records; then property slots, axiom
-- slots, file slots, the words of the files, the bitmap and the data blocks.
use Rattle.std.specs.Prelude.{◌-◌, ℕ, ◌+◌, ◌*◌, ◌/◌, ◌==◌, if◌then◌else◌}
use Rattle.lis_limits.specs.declared.TheConstants.{AXIOMS_PER_BLOCK, BLOCK_BITS, FILES_PER_BLOCK, PROPERTIES_PER_BLOCK, RECORD_BLOCKS, SETS_PER_BLOCK, V3_RECORD_BLOCKS}
use Rattle.lis_model.specs.declared.limits.Limits.{Limits}

-- eight sets in a block
abbrev pub set_blocks : Limits → ℕ
set_blocks limits = limits.files / SETS_PER_BLOCK

-- how many blocks hold records, from block 2 on
unfoldable pub record_blocks : Limits → ℕ
record_blocks limits = if limits.version == 3 then set_blocks limits + V3_RECORD_BLOCKS else RECORD_BLOCKS

-- How many blocks say which words each file has: in versions 1 and 2 they have a row of bits for each word, in version 3 a set for each file.
unfoldable pub description_blocks : Limits → ℕ
description_blocks limits = if limits.version == 3 then set_blocks limits else (limits.props * limits.files + (BLOCK_BITS - 1)) / BLOCK_BITS

-- 32,768 bits in a block
abbrev pub bitmap_blocks : Limits → ℕ
bitmap_blocks limits = (limits.blocks + (BLOCK_BITS - 1)) / BLOCK_BITS

abbrev pub properties_start : Limits → ℕ
properties_start limits = record_blocks limits + 2

-- 64 slots of 64 bytes in a block
abbrev pub axioms_start : Limits → ℕ
axioms_start limits = properties_start limits + limits.props / PROPERTIES_PER_BLOCK

-- 512 slots of 8 bytes in a block
abbrev pub files_start : Limits → ℕ
files_start limits = axioms_start limits + (limits.props + (AXIOMS_PER_BLOCK - 1)) / AXIOMS_PER_BLOCK

-- 16 slots of 256 bytes in a block
abbrev pub descriptions_start : Limits → ℕ
descriptions_start limits = files_start limits + limits.files / FILES_PER_BLOCK

abbrev pub bitmap_start : Limits → ℕ
bitmap_start limits = descriptions_start limits + description_blocks limits

abbrev pub data_start : Limits → ℕ
data_start limits = bitmap_start limits + bitmap_blocks limits

abbrev pub image_blocks : Limits → ℕ
image_blocks limits = data_start limits + limits.blocks
