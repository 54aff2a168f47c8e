-- A store: what memory keeps of an image, with its journal, and when it fits a disk.
use Rattle.std.specs.Prelude.{◌≡◌, ℕ, ◌*◌, ◌≤◌, Bool, true, false, Some, is_some, List, [], length, replicate, slice_get, IsTrue}
use Rattle.lis_limits.specs.declared.TheConstants.{BLOCK_LEN, MAX_DESCRIPTION}
use Rattle.lis_ports.specs.Meaning.{Meaning}
use Rattle.lis_journal.specs.Journal.{Held, no_records, shape_of}
use Rattle.lis_journal.specs.Images.{StandsFor, Fits, held_in}
use Rattle.lis_journal.specs.Phases.{looked}
use Rattle.lis_journal.specs.Staging.{are_whole}
use Rattle.lis_dict.specs.Dict.{word_of}
use Rattle.lis_ext.specs.Ext.{has, set_of as numbers_at, empty_ext}
use Rattle.lis_catalog.specs.Catalog.{rec_at}
use Rattle.lis_content.specs.Large.{HasNumber, MayHaveNumber}
use Rattle.lis_fields.specs.Records.{FileRecord}
use Rattle.lis_fields.specs.declared.slots.AxiomSlot.TheVariants.{Free as FreeAxiom, Pair}
use Rattle.lis_model.specs.declared.limits.Limits.{Limits}
use Rattle.lis_model.specs.Image.{data_start}
use Rattle.lis_model.specs.State.{State}
use Rattle.lis_model.specs.Tests.{is_met}
use Rattle.lis_kept.specs.Metadata.{Metadata}
use Rattle.lis_kept.specs.Areas.{IsWritten, axiom_slots}
use Rattle.lis_kept.specs.Links.{is_linked}
use Rattle.lis_kept.specs.Sound.{AreSound, FreeSlotsAreEmpty}
use Rattle.lis_kept.specs.Telling.{Tells}
use Rattle.lis_kept.specs.TestEdges.{test_by}
use Rattle.lis_kept.specs.Forgetting.{KeepsInUse}
use Rattle.lis_store.specs.Stands.{Stands}
use Rattle.lis_model.specs.Sets.{has_number}
use Rattle.lis_kept.specs.Image.{image_layout, image_capacity, image_shape}
use Rattle.lis_store.specs.declared.saving.TheConstants.{MOST_HELD}

pub record Stored : Type 0 where
  pub metadata : Metadata
  pub journal : Held
  -- a disk call failed: only what is on the disk counts
  pub is_broken : Bool

-- A store may be used on this disk: it is not broken, and the disk has all its blocks.
pub record IsUsable (k : Stored) (m : Meaning) : Type 0 where
  pub unbroken : k.is_broken ≡ false
  pub long : BLOCK_LEN * k.journal.layout.blocks ≤ m.len

-- a file that has a number has all numbers to which it is linked
abbrev pub AreClosed : Metadata → Type 0
AreClosed k = (slot p q : ℕ) → has k.ext p slot ≡ true → is_linked k p q ≡ true → has k.ext q slot ≡ true

-- No two axiom slots have the same two numbers.
abbrev pub PairsAreApart : Metadata → Type 0
PairsAreApart k =
    (slot other left right : ℕ) → slice_get k.axioms slot ≡ Some (Pair left right) → slice_get k.axioms other ≡ Some (Pair left right) → slot ≡ other

-- No file's description has more numbers than a file of a state may have words.
abbrev pub DescriptionsAreShort : Metadata → Type 0
DescriptionsAreShort k = (slot : ℕ) → length (numbers_at k.ext slot) ≤ MAX_DESCRIPTION

-- Tests are in descriptions by sizes alone: no test is assigned to a file, and a file has a known test exactly if its size meets it.
pub record TestsAreMet (k : Metadata) : Type 0 where
  pub given : (slot : ℕ) (rec : FileRecord) → rec_at k.catalog slot ≡ Some rec → (n : ℕ) → has_number rec.tags n ≡ true
      → is_some (test_by (word_of k.dict n)) ≡ false
  pub met : (slot : ℕ) (rec : FileRecord) → rec_at k.catalog slot ≡ Some rec → (n : ℕ) → is_some (test_by (word_of k.dict n)) ≡ true
      → has k.ext n slot ≡ is_met (test_by (word_of k.dict n)) rec.size

-- What holds of every store. If it is not broken, nothing is placed or marked between calls, and few blocks are staged, each of them whole.
pub record IsSound (k : Stored) : Type 0 where
  pub metadata : AreSound k.metadata
  pub free : FreeSlotsAreEmpty k.metadata
  pub pairs : PairsAreApart k.metadata
  pub closed : AreClosed k.metadata
  pub short : DescriptionsAreShort k.metadata
  pub tests : TestsAreMet k.metadata
  pub in_use : KeepsInUse k.metadata
  pub image : shape_of k.journal ≡ image_shape k.metadata.limits
  pub journal : k.is_broken ≡ false → k.journal.is_broken ≡ false
  pub few : k.is_broken ≡ false → length k.journal.staged ≤ MOST_HELD
  pub whole : k.is_broken ≡ false → IsTrue (are_whole k.journal.staged)
  pub placed : k.is_broken ≡ false → k.journal.placed ≡ []
  pub clean : k.is_broken ≡ false → k.metadata.marks ≡ replicate (length k.metadata.marks) false

-- A store fits a disk at a state: its journal fits the disk, and nothing is staged. By the blocks that the disk keeps, the contents of
-- memory are written there and represent the state. So every image of the disk represents the state.
pub record StoreFits (k : Stored) (m : Meaning) (s : State) : Type 0 where
  pub kept : ℕ → List ℕ
  pub journal : Fits k.journal m kept
  pub unbroken : k.is_broken ≡ false
  pub settled : k.journal.staged ≡ []
  pub tells : Tells k.metadata kept s
  pub written : IsWritten k.metadata kept

-- Changes are held back: each image of the disk represents the base. By what the disk keeps, with the staged blocks over it, memory
-- represents the state.
pub record StoreHolds (k : Stored) (m : Meaning) (base s : State) : Type 0 where
  pub kept : ℕ → List ℕ
  pub journal : Fits k.journal m kept
  pub unbroken : k.is_broken ≡ false
  pub limits : k.metadata.limits ≡ base.limits
  pub stands : (image : List ℕ) → StandsFor k.journal.layout kept image → Stands image base
  pub tells : Tells k.metadata (looked k.journal.staged kept) s
  pub written : IsWritten k.metadata (looked k.journal.staged kept)

-- the metadata without words, axioms and files
abbrev pub empty_metadata : Limits → ℕ → Metadata
empty_metadata limits blocks = record {
  limits = limits;
  dict = record { props = limits.props; entries = [] };
  declared = replicate limits.props false;
  axioms = replicate (axiom_slots limits).count FreeAxiom;
  catalog = record { files = limits.files; entries = [] };
  taken = replicate limits.blocks false;
  ext = empty_ext limits.props limits.files;
  marks = replicate blocks false;
}

-- a store without words and files, with a journal that has no open record
abbrev pub empty_stored : Limits → ℕ → Stored
empty_stored limits blocks = record {
  metadata = empty_metadata limits blocks;
  journal = record { layout = image_layout limits; capacity = image_capacity limits; staged = []; records = no_records; placed = []; is_broken = false };
  is_broken = false;
}

-- If the disk reads as these bytes, `index` is the index block with the number of the n-th block of the file in the slot, if it has index
-- blocks. Or that number is the first of its index block.
abbrev pub IsIndex : Stored → List ℕ → ℕ → ℕ → List ℕ → Type 0
IsIndex k bytes slot n index =
    (rec : FileRecord) → rec_at k.metadata.catalog slot ≡ Some rec
    → MayHaveNumber (data_start k.metadata.limits) rec.blocks rec.size n (held_in k.journal bytes) index
