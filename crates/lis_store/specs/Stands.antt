-- When an image represents a state.
use Rattle.std.specs.Prelude.{◌≡◌, ℕ, ◌*◌, ◌/◌, ◌<◌, ◌≤◌, nat_lt, Bool, true, false, ◌&&◌, Option, Some, None, is_some, List, [], ◌∷◌, length, map, filter, drop, replicate, slice_get, slice_index_or, IsTrue}
use Rattle.std.specs.Option.{option_to_list}
use Rattle.std.specs.BTreeSet.{insert_key}
use Rattle.std.specs.List.{fold, flat_map, list_all, range_with_len, Contains}
use Rattle.lis_limits.specs.declared.TheConstants.{BLOCK_LEN}
use Rattle.lis_ports.specs.Bytes.{part}
use Rattle.lis_journal.specs.Record.{block, replayed}
use Rattle.lis_slots.specs.Slots.{Slots, slot}
use Rattle.lis_content.specs.Content.{marked}
use Rattle.lis_bits.specs.Bytes.{bits_bytes}
use Rattle.lis_fields.specs.Records.{FileRecord}
use Rattle.lis_fields.specs.declared.slots.PropSlot.{PropSlot}
use Rattle.lis_fields.specs.declared.slots.PropSlot.TheVariants.{Free as FreeProp, Known, Declared}
use Rattle.lis_fields.specs.declared.slots.AxiomSlot.{AxiomSlot}
use Rattle.lis_fields.specs.declared.slots.AxiomSlot.TheVariants.{Free as FreeAxiom, Pair}
use Rattle.lis_fields.specs.declared.slots.FileSlot.{FileSlot}
use Rattle.lis_fields.specs.declared.slots.FileSlot.TheVariants.{Free as FreeFile, Used}
use Rattle.lis_fields.specs.Layouts.{SpellsSuper, prop_bytes, is_prop, axiom_bytes, is_axiom, file_bytes, is_file, set_bytes}
use Rattle.lis_words.specs.Words.{has_word}
use Rattle.lis_model.specs.declared.limits.Limits.{Limits}
use Rattle.lis_model.specs.Image.{image_blocks}
use Rattle.lis_model.specs.Ranges.{are_in_range}
use Rattle.lis_model.specs.Sets.{set_of, are_distinct}
use Rattle.lis_model.specs.State.{State, File, pair_cmp, file_cmp, known, description, WellFormed}
use Rattle.lis_kept.specs.Areas.{AreBitmapBlocks, property_slots, axiom_slots, file_slots, row_slots, set_slots}
use Rattle.lis_kept.specs.Telling.{pair_by, bytes_told, blocks_told, HasIndex}
use Rattle.lis_kept.specs.Image.{image_layout}

-- what the slots of an image are, each array in the order of its numbers
pub record Contents : Type 0 where
  pub properties : List PropSlot
  pub axioms : List AxiomSlot
  pub files : List FileSlot

-- in the blocks the slots of an array are spelled so, and their values are in the ranges of the layout
pub record AreSlots {X : Type 0} (spelled : X → List ℕ) (is_in_range : X → Bool) (slots : Slots) (at : ℕ → List ℕ) (values : List X) : Type 0 where
  pub count : length values ≡ slots.count
  pub each : (k : ℕ) (value : X) → slice_get values k ≡ Some value → (slot slots at k ≡ spelled value) × IsTrue (is_in_range value)

-- ---- words
-- the word of a property slot, and the declared one
abbrev pub word_in : PropSlot → Option (List ℕ)
word_in FreeProp = None
word_in (Known word) = Some word
word_in (Declared word) = Some word

abbrev pub declared_in : PropSlot → Option (List ℕ)
declared_in FreeProp = None
declared_in (Known word) = None
declared_in (Declared word) = Some word

abbrev pub words_in : List PropSlot → List (List ℕ)
words_in properties = flat_map (λ property. option_to_list (word_in property)) properties

abbrev pub all_declared : List PropSlot → List (List ℕ)
all_declared properties = flat_map (λ property. option_to_list (declared_in property)) properties

-- the word that has a number
abbrev pub word_at : List PropSlot → ℕ → Option (List ℕ)
word_at properties n = word_in (slice_index_or properties n FreeProp)

-- ---- axioms
-- the pair of words of an axiom slot
abbrev pub pair_in : List PropSlot → AxiomSlot → List (List ℕ × List ℕ)
pair_in properties FreeAxiom = []
pair_in properties (Pair left right) = pair_by (word_at properties left) (word_at properties right)

abbrev pub pairs_in : List PropSlot → List AxiomSlot → List (List ℕ × List ℕ)
pairs_in properties axioms = flat_map (pair_in properties) axioms

-- both numbers of an axiom slot are those of slots with words
abbrev pub is_named_axiom : List PropSlot → AxiomSlot → Bool
is_named_axiom properties FreeAxiom = true
is_named_axiom properties (Pair left right) = is_some (word_at properties left) && is_some (word_at properties right)

abbrev pub is_free_axiom : AxiomSlot → Bool
is_free_axiom FreeAxiom = true
is_free_axiom (Pair left right) = false

-- ---- files
-- the records of the file slots that are used
abbrev pub records_in : FileSlot → List FileRecord
records_in FreeFile = []
records_in (Used rec) = rec ∷ []

abbrev pub all_records : List FileSlot → List FileRecord
all_records files = flat_map records_in files

-- all blocks of these files, their index blocks among them
abbrev pub all_blocks : Limits → (ℕ → List ℕ) → List FileRecord → List ℕ
all_blocks limits at recs = flat_map (blocks_told limits at) recs

-- a record's file
abbrev pub file_by : Limits → List PropSlot → (ℕ → List ℕ) → FileRecord → File
file_by limits properties at rec = record {
  name = rec.name;
  bytes = bytes_told limits at rec;
  assigned = set_of (flat_map (λ n. option_to_list (word_at properties n)) rec.tags);
}

-- ---- the state
-- the state that slots and data blocks spell
abbrev pub spelled_state : Limits → Contents → (ℕ → List ℕ) → State
spelled_state limits contents at = record {
  limits = limits;
  declared = set_of (all_declared contents.properties);
  axioms = fold (insert_key pair_cmp) [] (pairs_in contents.properties contents.axioms);
  files = fold (insert_key file_cmp) [] (map (file_by limits contents.properties at) (all_records contents.files));
}

-- ---- extension rows and sets
abbrev pub is_had_by : State → (FileRecord → File) → Option (List ℕ) → FileSlot → Bool
is_had_by s file None slot = false
is_had_by s file (Some word) FreeFile = false
is_had_by s file (Some word) (Used rec) = has_word (description s (file rec)) word

-- slot p has a word, slot i has a file, and the file's description has the word
abbrev pub row_bit : State → Limits → Contents → (ℕ → List ℕ) → ℕ → ℕ → Bool
row_bit s limits contents at p i =
    is_had_by s (file_by limits contents.properties at) (word_at contents.properties p) (slice_index_or contents.files i FreeFile)

-- the numbers of the words that the description of slot i's file has, in rising order
abbrev pub set_by : State → Limits → Contents → (ℕ → List ℕ) → ℕ → List ℕ
set_by s limits contents at i = filter (λ p. row_bit s limits contents at p i) (range_with_len 0 limits.props)

-- By what each block holds, the slots are in their layouts and spell the state, which is well formed. The words of the slots are the known
-- words, each once. No two axiom slots have one pair, and those past the last number are free. No two files have one name. Index blocks are
-- well formed. No block is used twice, as a data block or as an index block. The bitmap shows exactly the blocks in use, and the rows, of
-- which there are none in version 3, and the sets, of which there are none before it, show exactly which file has which word.
pub record Spells (limits : Limits) (contents : Contents) (at : ℕ → List ℕ) (s : State) : Type 0 where
  pub properties : AreSlots prop_bytes is_prop (property_slots limits) at contents.properties
  pub axioms : AreSlots axiom_bytes is_axiom (axiom_slots limits) at contents.axioms
  pub files : AreSlots (file_bytes limits.version) (is_file limits) (file_slots limits) at contents.files
  pub named_axioms : IsTrue (list_all (is_named_axiom contents.properties) contents.axioms)
  pub free_axioms : IsTrue (list_all is_free_axiom (drop limits.props contents.axioms))
  pub named : IsTrue (list_all (λ (rec : FileRecord). list_all (λ n. is_some (word_at contents.properties n)) rec.tags) (all_records contents.files))
  pub state : s ≡ spelled_state limits contents at
  pub formed : WellFormed s
  pub words : set_of (words_in contents.properties) ≡ known s
  pub each_word_once : length (words_in contents.properties) ≡ length (known s)
  pub each_pair_once : length (pairs_in contents.properties contents.axioms) ≡ length s.axioms
  pub each_name_once : length (all_records contents.files) ≡ length s.files
  pub indexed : (rec : FileRecord) → Contains (all_records contents.files) rec → HasIndex limits at rec
  pub blocks : IsTrue (list_all (λ n. nat_lt n limits.blocks) (all_blocks limits at (all_records contents.files)))
  pub each_block_once : IsTrue (are_distinct (all_blocks limits at (all_records contents.files)))
  pub bitmap : AreBitmapBlocks limits at (marked (replicate limits.blocks false) (all_blocks limits at (all_records contents.files)))
  pub rows : (p : ℕ) → p < (row_slots limits).count → slot (row_slots limits) at p ≡ bits_bytes (limits.files / 8) (row_bit s limits contents at p)
  pub sets : (i : ℕ) → i < (set_slots limits).count → slot (set_slots limits) at i ≡ set_bytes (set_by s limits contents at i)

-- The image has a super block with the state's limits, is as long as these say, and has a replayed image that spells the state. What is
-- past the image does not count.
pub record StandsFor (image : List ℕ) (s : State) : Type 0 where
  pub range : IsTrue (are_in_range s.limits)
  pub super : SpellsSuper s.limits (part 0 BLOCK_LEN image)
  pub long : BLOCK_LEN * image_blocks s.limits ≤ length image
  pub replay : List ℕ
  pub replays : replayed (image_layout s.limits) image ≡ Some replay
  pub contents : Contents
  pub spells : Spells s.limits contents (λ n. block n replay) s

unfoldable pub Stands : List ℕ → State → Type 0
Stands image s = StandsFor image s
