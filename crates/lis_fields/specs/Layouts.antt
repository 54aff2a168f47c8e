-- The parts of an image as they are spelled, each whole, and which values they may have. The lowest byte of a number comes first.
use Rattle.std.specs.Prelude.{◌*◌, ◌≡◌, ℕ, ◌+◌, ◌-◌, ◌^◌, ◌==◌, nat_lt, nat_le, Bool, true, ◌&&◌, ◌||◌, if◌then◌else◌, List, [], ◌∷◌, ◌++◌, length, replicate, codes, IsTrue}
use Rattle.std.specs.List.{flat_map, list_all}
use Rattle.std.specs.Ordering.{nat_cmp}
use Rattle.lis_limits.specs.declared.TheConstants.{BLOCK_LEN, FILE_LEN, MAX_ASSIGNED, MAX_DESCRIPTION, MAX_WORD, PROP_LEN, SET_LEN}
use Rattle.byteorder.specs.Endian.{little_bytes}
use Rattle.lis_graph.specs.Graph.{is_rising}
use Rattle.lis_words.specs.Bytes.{padded}
use Rattle.lis_words.specs.Words.{is_head, is_valued, is_built_in, is_file_name}
use Rattle.lis_model.specs.declared.limits.Limits.{Limits}
use Rattle.lis_model.specs.Sets.{are_distinct, fit}
use Rattle.lis_model.specs.State.{is_declarable, file_limit, blocks_needed, index_blocks}
use Rattle.lis_fields.specs.Records.{FileRecord}
use Rattle.lis_fields.specs.declared.slots.PropSlot.{PropSlot}
use Rattle.lis_fields.specs.declared.slots.PropSlot.TheVariants.{Free as FreeProp, Known, Declared}
use Rattle.lis_fields.specs.declared.slots.AxiomSlot.{AxiomSlot}
use Rattle.lis_fields.specs.declared.slots.AxiomSlot.TheVariants.{Free as FreeAxiom, Pair}
use Rattle.lis_fields.specs.declared.slots.FileSlot.{FileSlot}
use Rattle.lis_fields.specs.declared.slots.FileSlot.TheVariants.{Free as FreeFile, Used}

-- n zero bytes
unfoldable pub zeros : ℕ → List ℕ
zeros n = replicate n 0

-- a text of at most 60 bytes, after its length
abbrev pub text_bytes : List ℕ → List ℕ
text_bytes text = length text ∷ padded MAX_WORD text

-- how a super block begins: its name, and a number, which is 1 in versions 1 and 2
abbrev pub super_start : ℕ → List ℕ
super_start version = codes "LISFS-IM" ++ little_bytes 4 (if version == 3 then 3 else 1)

-- the three limits of a super block
abbrev pub super_numbers : Limits → List ℕ
super_numbers limits = little_bytes 4 limits.files ++ (little_bytes 4 limits.props ++ little_bytes 4 limits.blocks)

-- the version of a gate, before version 3: 2 is version 2, and every other value is version 1
abbrev pub gate_version : ℕ → ℕ
gate_version gate = if gate == 2 then 2 else 1

-- a gate of that version: in version 3 it is 0
abbrev pub is_gate : ℕ → ℕ → Bool
is_gate version gate = if version == 3 then gate == 0 else gate_version gate == version

-- the gate that is written for a version
abbrev pub version_gate : ℕ → ℕ
version_gate version = if version == 2 then 2 else 0

-- a super block with that gate: how it begins, its limits, the gate, and zeros
unfoldable pub super_with : ℕ → Limits → List ℕ
super_with gate limits = super_start limits.version ++ (super_numbers limits ++ gate ∷ zeros (BLOCK_LEN - 25))

-- the super block that is written
abbrev pub super_bytes : Limits → List ℕ
super_bytes limits = super_with (version_gate limits.version) limits

-- The bytes are a super block of these limits, with a gate of their version. So limits of version 1 have many spellings, and those of later
-- versions have one. The gate need not be below 256, since that of an image that a stop left may be any number.
pub record SpellsSuper (limits : Limits) (bytes : List ℕ) : Type 0 where
  pub gate : ℕ
  pub tells : IsTrue (is_gate limits.version gate)
  pub spelled : bytes ≡ super_with gate limits

-- a property slot that has a word: the kind, the word, and zeros
abbrev pub named : ℕ → List ℕ → List ℕ
named kind word = kind ∷ text_bytes word ++ zeros 2

-- a property slot: kind 1 is a word that is known and not declared, kind 2 a declared one
unfoldable pub prop_bytes : PropSlot → List ℕ
prop_bytes FreeProp = zeros PROP_LEN
prop_bytes (Known word) = named 1 word
prop_bytes (Declared word) = named 2 word

-- what may be known without being declared
abbrev pub is_undeclared : List ℕ → Bool
is_undeclared word = is_valued word || (is_head word && is_built_in word)

-- the word is one of its kind
abbrev pub is_prop : PropSlot → Bool
is_prop FreeProp = true
is_prop (Known word) = is_undeclared word
is_prop (Declared word) = is_declarable word

-- an axiom slot: the slot numbers of its two words, each plus 1
unfoldable pub axiom_bytes : AxiomSlot → List ℕ
axiom_bytes FreeAxiom = zeros 8
axiom_bytes (Pair left right) = little_bytes 4 (left + 1) ++ little_bytes 4 (right + 1)

-- each number plus 1 is one of four bytes
abbrev pub is_axiom : AxiomSlot → Bool
is_axiom FreeAxiom = true
is_axiom (Pair left right) = nat_lt left (2 ^ 32 - 1) && nat_lt right (2 ^ 32 - 1)

-- how many bytes the number of a word or of a data block has: two, and four in version 3
abbrev pub number_width : ℕ → ℕ
number_width version = if version == 3 then 4 else 2

-- up to 16 numbers of that many bytes
abbrev pub numbers : ℕ → List ℕ → List ℕ
numbers width ns = padded (MAX_ASSIGNED * width) (flat_map (little_bytes width) ns)

-- how a file slot that is used begins: a 1, the name, how many assigned words there are, and a 0
abbrev pub file_start : List ℕ → ℕ → List ℕ
file_start name count = 1 ∷ text_bytes name ++ count ∷ 0 ∷ []

-- a file slot that is used: the name, how many words, the size, the words' slots, the block numbers, and zeros
abbrev pub record_bytes : ℕ → FileRecord → List ℕ
record_bytes version rec =
    let width = number_width version in
    file_start rec.name (length rec.tags)
    ++ (little_bytes 4 rec.size ++ (numbers width rec.tags ++ (numbers width rec.blocks ++ zeros (FILE_LEN - (64 + 4 + 2 * (MAX_ASSIGNED * width))))))

-- a file slot
unfoldable pub file_bytes : ℕ → FileSlot → List ℕ
file_bytes version FreeFile = zeros FILE_LEN
file_bytes version (Used rec) = record_bytes version rec

-- at most 16 slot numbers, strictly rising
abbrev pub are_tags : ℕ → List ℕ → Bool
are_tags version tags = nat_le (length tags) MAX_ASSIGNED && fit (number_width version) tags && is_rising nat_cmp tags

-- how many block numbers the slot of a file of that version and size has: those of the blocks of the content, or of the blocks that number
-- these, if there are any
abbrev pub slot_blocks : ℕ → ℕ → ℕ
slot_blocks version size =
    let needed = blocks_needed size in if index_blocks version needed == 0 then needed else index_blocks version needed

-- as many block numbers as a slot has, none of them twice
abbrev pub are_blocks : ℕ → ℕ → List ℕ → Bool
are_blocks version size blocks = (length blocks == slot_blocks version size) && fit (number_width version) blocks && are_distinct blocks

-- what a file slot of an image with these limits may say of a file
abbrev pub is_record : Limits → FileRecord → Bool
is_record limits rec =
    is_file_name rec.name && nat_le rec.size (file_limit limits) && are_tags limits.version rec.tags && are_blocks limits.version rec.size rec.blocks

-- the values of a file slot
abbrev pub is_file : Limits → FileSlot → Bool
is_file limits FreeFile = true
is_file limits (Used rec) = is_record limits rec

-- the set of a file, in version 3: the numbers of its words, each plus 1, and zeros
unfoldable pub set_bytes : List ℕ → List ℕ
set_bytes ns = padded SET_LEN (flat_map (λ n. little_bytes 4 (n + 1)) ns)

-- what the set of a file may have: at most 128 numbers, strictly rising, each of which plus 1 is one of four bytes
abbrev pub is_set : List ℕ → Bool
is_set ns = nat_le (length ns) MAX_DESCRIPTION && list_all (λ n. nat_lt n (2 ^ 32 - 1)) ns && is_rising nat_cmp ns
