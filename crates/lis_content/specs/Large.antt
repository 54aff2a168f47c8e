-- The blocks of a file. If its content takes more than 16, index blocks have their numbers, at most 1,024 each, and the slot has only the
-- numbers of the index blocks.
use Rattle.std.specs.Prelude.{◌-◌, ◌≡◌, ◌≢◌, ℕ, ◌+◌, ◌*◌, ◌/◌, ◌%◌, ◌<◌, min, nat_lt, Bool, true, if◌then◌else◌, List, ◌++◌, length, map, drop, replicate, slice_index}
use Rattle.std.specs.List.{flat_map, range_with_len}
use Rattle.lis_limits.specs.declared.TheConstants.{BLOCK_LEN, NUMBERS_PER_INDEX, SLOT_BLOCKS}
use Rattle.byteorder.specs.Endian.{little_bytes, little_number}
use Rattle.lis_model.specs.State.{blocks_needed, index_blocks}
use Rattle.lis_fields.specs.Layouts.{number_width}
use Rattle.lis_words.specs.Bytes.{padded}
use Rattle.lis_content.specs.Content.{content}

-- this many bytes take more blocks than a slot numbers
abbrev pub is_large : ℕ → Bool
is_large size = nat_lt SLOT_BLOCKS (blocks_needed size)

-- how many numbers a slot has for this many bytes: those of the index blocks, if there are any (as from version 2 on)
abbrev pub slot_count : ℕ → ℕ
slot_count size = if is_large size then index_blocks 2 (blocks_needed size) else blocks_needed size

-- an index block: the numbers in order, the lowest byte of each first, and zeros
abbrev pub index_bytes : ℕ → List ℕ → List ℕ
index_bytes version ns = padded BLOCK_LEN (flat_map (little_bytes (number_width version)) ns)

-- the k-th number of a block, counted from 0
abbrev pub number_at : ℕ → List ℕ → ℕ → ℕ
number_at version bytes k = little_number (number_width version) (drop (number_width version * k) bytes)

-- the first `count` numbers of a block
unfoldable pub numbers_in : ℕ → ℕ → List ℕ → List ℕ
numbers_in version count bytes = map (number_at version bytes) (range_with_len 0 count)

-- the home of the j-th index block, by the numbers of a slot
abbrev pub index_home : ℕ → List ℕ → ℕ → ℕ
index_home base slot j = base + slice_index slot j

-- how many numbers the j-th index block has: 1,024, and the last one those that are left
abbrev pub index_count : ℕ → ℕ → ℕ
index_count size j = min NUMBERS_PER_INDEX (blocks_needed size - NUMBERS_PER_INDEX * j)

-- the number of the k-th block of the content, by the index block that has it
abbrev pub number_of : ℕ → ℕ → List ℕ → (ℕ → List ℕ) → ℕ → ℕ
number_of version base slot at k = number_at version (at (index_home base slot (k / NUMBERS_PER_INDEX))) (k % NUMBERS_PER_INDEX)

-- the numbers of the first `count` blocks
unfoldable pub numbers_of : ℕ → ℕ → List ℕ → ℕ → (ℕ → List ℕ) → List ℕ
numbers_of version base slot count at = map (number_of version base slot at) (range_with_len 0 count)

-- the numbers of the blocks that have the content, by those of the slot and by what each block has
abbrev pub content_blocks : ℕ → ℕ → List ℕ → ℕ → (ℕ → List ℕ) → List ℕ
content_blocks version base slot size at =
    if is_large size then numbers_of version base slot (blocks_needed size) at else slot

-- the bytes of a file, by the numbers of its slot and by what each block has
abbrev pub file_content : ℕ → ℕ → List ℕ → ℕ → (ℕ → List ℕ) → List ℕ
file_content version base slot size at = content base (content_blocks version base slot size at) size at

-- all blocks of a file: those with the content, and then the index blocks if it has any
abbrev pub file_blocks : ℕ → ℕ → List ℕ → ℕ → (ℕ → List ℕ) → List ℕ
file_blocks version base slot size at =
    if is_large size then content_blocks version base slot size at ++ slot else slot

-- each index block, if the file has any, is well formed: it spells the numbers that are read from it
abbrev pub IsIndexed : ℕ → ℕ → List ℕ → ℕ → (ℕ → List ℕ) → Type 0
IsIndexed version base slot size at =
    is_large size ≡ true → (j : ℕ) → j < length slot
    → at (index_home base slot j) ≡ index_bytes version (numbers_in version (index_count size j) (at (index_home base slot j)))

-- the buffer has the index block with the number of the n-th block of the content, if the file has index blocks
abbrev pub HasNumber : ℕ → List ℕ → ℕ → ℕ → (ℕ → List ℕ) → List ℕ → Type 0
HasNumber base slot size n at index = is_large size ≡ true → index ≡ at (index_home base slot (n / NUMBERS_PER_INDEX))

-- it does, or that number is the first of its index block
abbrev pub MayHaveNumber : ℕ → List ℕ → ℕ → ℕ → (ℕ → List ℕ) → List ℕ → Type 0
MayHaveNumber base slot size n at index = n % NUMBERS_PER_INDEX ≢ 0 → HasNumber base slot size n at index

-- what is read of a block with this number; zeros if it is none of the image's
abbrev pub block_within : ℕ → ℕ → (ℕ → List ℕ) → ℕ → List ℕ
block_within base blocks at n = if nat_lt (base + n) blocks then at (base + n) else replicate BLOCK_LEN 0
