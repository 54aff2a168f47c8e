-- Spellings that were worked out by hand: the first 25 bytes of the super blocks of limits 64, 64 and 8, a slot of each kind, a set, and the
-- block numbers of files of some sizes.
use Rattle.std.proofs.Common.{◌≡◌, refl, ℕ, true, false, [], ◌∷◌, ◌++◌, take, codes}
use Rattle.lis_model.specs.declared.limits.Limits.{Limits}
use Rattle.lis_fields.specs.Records.{FileRecord}
use Rattle.lis_fields.specs.Layouts.{super_with, super_bytes, gate_version, is_gate, prop_bytes, is_prop, axiom_bytes, file_bytes, is_record, slot_blocks, set_bytes, zeros}
use Rattle.lis_fields.specs.declared.slots.PropSlot.TheVariants.{Known, Declared}
use Rattle.lis_fields.specs.declared.slots.AxiomSlot.TheVariants.{Pair}
use Rattle.lis_fields.specs.declared.slots.FileSlot.TheVariants.{Used}

super_of_64_64_8 : take 25 (super_bytes (record { files = 64; props = 64; blocks = 8; version = 1 }))
    ≡ 76 ∷ 73 ∷ 83 ∷ 70 ∷ 83 ∷ 45 ∷ 73 ∷ 77 ∷ 1 ∷ 0 ∷ 0 ∷ 0 ∷ 64 ∷ 0 ∷ 0 ∷ 0 ∷ 64 ∷ 0 ∷ 0 ∷ 0 ∷ 8 ∷ 0 ∷ 0 ∷ 0 ∷ 0 ∷ []
unfolding super_with
super_of_64_64_8 = refl

super_of_version_2 : take 25 (super_bytes (record { files = 64; props = 64; blocks = 8; version = 2 }))
    ≡ 76 ∷ 73 ∷ 83 ∷ 70 ∷ 83 ∷ 45 ∷ 73 ∷ 77 ∷ 1 ∷ 0 ∷ 0 ∷ 0 ∷ 64 ∷ 0 ∷ 0 ∷ 0 ∷ 64 ∷ 0 ∷ 0 ∷ 0 ∷ 8 ∷ 0 ∷ 0 ∷ 0 ∷ 2 ∷ []
unfolding super_with
super_of_version_2 = refl

super_of_version_3 : take 25 (super_bytes (record { files = 64; props = 64; blocks = 8; version = 3 }))
    ≡ 76 ∷ 73 ∷ 83 ∷ 70 ∷ 83 ∷ 45 ∷ 73 ∷ 77 ∷ 3 ∷ 0 ∷ 0 ∷ 0 ∷ 64 ∷ 0 ∷ 0 ∷ 0 ∷ 64 ∷ 0 ∷ 0 ∷ 0 ∷ 8 ∷ 0 ∷ 0 ∷ 0 ∷ 0 ∷ []
unfolding super_with
super_of_version_3 = refl

sixteen_in_each : (slot_blocks 1 65536 ≡ 16) × (slot_blocks 2 65536 ≡ 16) × (slot_blocks 3 65536 ≡ 16)
sixteen_in_each = (refl, refl, refl)

seventeen_in_an_index : (slot_blocks 2 65537 ≡ 1) × (slot_blocks 2 1048576 ≡ 1)
seventeen_in_an_index = (refl, refl)

-- an index block of version 3 numbers up to 1,024 blocks
seventeen_in_version_3 : slot_blocks 3 65537 ≡ 1
seventeen_in_version_3 = refl

full_index : (slot_blocks 3 4194304 ≡ 1) × (slot_blocks 3 4194305 ≡ 2)
full_index = (refl, refl)

most_indexes : slot_blocks 3 67108864 ≡ 16
most_indexes = refl

gate_of_3 : gate_version 3 ≡ 1
gate_of_3 = refl

-- in version 3 a gate is 0
gates : (is_gate 1 7 ≡ true) × (is_gate 2 7 ≡ false) × (is_gate 3 0 ≡ true) × (is_gate 3 2 ≡ false)
gates = (refl, refl, refl, refl)

slot_of_a_test : take 12 (prop_bytes (Declared (codes "size>=9"))) ≡ 2 ∷ 7 ∷ codes "size>=9" ++ 0 ∷ 0 ∷ 0 ∷ []
unfolding prop_bytes zeros
slot_of_a_test = refl

a_test_is_declared : (is_prop (Declared (codes "size>=9")) ≡ true) × (is_prop (Known (codes "size>=9")) ≡ false)
a_test_is_declared = (refl, refl)

slot_of_an_axiom : axiom_bytes (Pair 0 511) ≡ 1 ∷ 0 ∷ 0 ∷ 0 ∷ 0 ∷ 2 ∷ 0 ∷ 0 ∷ []
unfolding axiom_bytes
slot_of_an_axiom = refl

abbrev limits_of : ℕ → ℕ → Limits
limits_of version blocks = record { files = 64; props = 64; blocks = blocks; version = version }

-- a name of four bytes, two words, 5,000 bytes in blocks 7 and 5
abbrev song : FileRecord
song = record { name = codes "song"; size = 5000; tags = 3 ∷ 258 ∷ []; blocks = 7 ∷ 5 ∷ [] }

slot_of_a_file : file_bytes 1 (Used song)
    ≡ 1 ∷ 4 ∷ codes "song" ++ zeros 56 ++ 2 ∷ 0 ∷ 136 ∷ 19 ∷ 0 ∷ 0 ∷ 3 ∷ 0 ∷ 2 ∷ 1 ∷ zeros 28 ++ 7 ∷ 0 ∷ 5 ∷ 0 ∷ zeros 28 ++ zeros 124
unfolding file_bytes zeros
slot_of_a_file = refl

slot_of_version_3 : file_bytes 3 (Used song)
    ≡ 1 ∷ 4 ∷ codes "song" ++ zeros 56 ++ 2 ∷ 0 ∷ 136 ∷ 19 ∷ 0 ∷ 0 ∷ 3 ∷ 0 ∷ 0 ∷ 0 ∷ 2 ∷ 1 ∷ 0 ∷ 0 ∷ zeros 56 ++ 7 ∷ 0 ∷ 0 ∷ 0 ∷ 5 ∷ 0 ∷ 0 ∷ 0 ∷ zeros 56 ++ zeros 60
unfolding file_bytes zeros
slot_of_version_3 = refl

a_song_in_each : (is_record (limits_of 1 8) song ≡ true) × (is_record (limits_of 2 8) song ≡ true) × (is_record (limits_of 3 8) song ≡ true)
a_song_in_each = (refl, refl, refl)

blocks_are_distinct : is_record (limits_of 1 8) (record { name = codes "song"; size = 5000; tags = []; blocks = 7 ∷ 7 ∷ [] }) ≡ false
blocks_are_distinct = refl

-- only version 3 has numbers above 65,535
large_number : (is_record (limits_of 2 8) (record song { tags = 65536 ∷ [] }) ≡ false) × (is_record (limits_of 3 8) (record song { tags = 65536 ∷ [] }) ≡ true)
large_number = (refl, refl)

-- and there a file has no more bytes than the data blocks
one_block_too_few : is_record (limits_of 3 1) song ≡ false
one_block_too_few = refl

-- the set of the words 0, 255 and 65,535
set_of_three : set_bytes (0 ∷ 255 ∷ 65535 ∷ []) ≡ 1 ∷ 0 ∷ 0 ∷ 0 ∷ 0 ∷ 1 ∷ 0 ∷ 0 ∷ 0 ∷ 0 ∷ 1 ∷ 0 ∷ zeros 500
unfolding set_bytes zeros
set_of_three = refl
