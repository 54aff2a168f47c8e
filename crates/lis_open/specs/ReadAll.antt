-- What is checked after words, axioms and files, and how all parts are joined. No public clause cites this module.
use Rattle.std.specs.Prelude.{◌≡◌, ◌≢◌, ℕ, ◌+◌, ◌*◌, ◌≤◌, ◌<◌, nat_lt, Bool, false, not, ◌&&◌, if◌then◌else◌, is_some, Result, Ok, Err, List, length, replicate, IsTrue}
use Rattle.lis_limits.specs.declared.TheConstants.{BLOCK_BITS}
use Rattle.lis_bits.specs.Rows.{HasShape}
use Rattle.lis_slots.specs.Slots.{slot}
use Rattle.lis_blockmap.specs.Bitmap.{is_taken}
use Rattle.lis_dict.specs.Dict.{word_of}
use Rattle.lis_ext.specs.Ext.{Ext, set_of}
use Rattle.lis_model.specs.declared.limits.Limits.{Limits}
use Rattle.lis_model.specs.declared.spot.Spot.{Spot}
use Rattle.lis_model.specs.declared.spot.Spot.TheVariants.{Word, Bitmap, Row, Set}
use Rattle.lis_model.specs.Image.{bitmap_blocks, data_start}
use Rattle.lis_model.specs.State.{State}
use Rattle.lis_kept.specs.Metadata.{Metadata, metadata_of}
use Rattle.lis_kept.specs.Areas.{IsWritten, AreBitmapBlocks, axiom_slots, row_slots, set_slots}
use Rattle.lis_kept.specs.Rows.{row_bytes}
use Rattle.lis_fields.specs.Layouts.{set_bytes}
use Rattle.lis_kept.specs.Telling.{Tells, is_used}
use Rattle.lis_store.specs.Stored.{Stored}
use Rattle.lis_open.specs.declared.mounting.OpenFault.{OpenFault}
use Rattle.lis_open.specs.declared.mounting.OpenFault.TheVariants.{TooShort, Damaged, DiskFault, NoMemory}
use Rattle.lis_open.specs.declared.words.Words.{Words}
use Rattle.lis_open.specs.declared.axioms.Axioms.{Axioms}
use Rattle.lis_open.specs.declared.files.Files.{Files}
use Rattle.lis_open.specs.declared.memory.OpeningMemory.{OpeningMemory}
use Rattle.lis_open.specs.declared.memory.LaterMemory.{LaterMemory}
use Rattle.lis_open.specs.Checks.{Fails, has_bitmap_bit, rank}
use Rattle.lis_open.specs.Reading.{PartsFail}
use Rattle.lis_open.specs.ReadWords.{no_words, AreNoAxioms, AreFirstWords, AreFirstAxioms, WordsAreSpelled, AxiomsAreSpelled}
use Rattle.lis_open.specs.ReadFiles.{no_files, AreFiles, FilesAreTold}

-- ---- memory
-- a mark for each block before the data blocks, and no block is marked
pub record AreNoMarks (limits : Limits) (marks : List Bool) : Type 0 where
  pub long : data_start limits ≤ length marks
  pub none : marks ≡ replicate (length marks) false

-- nothing was read into it yet
pub record IsEmptyLater (limits : Limits) (memory : LaterMemory) : Type 0 where
  pub axioms : AreNoAxioms limits memory.axioms
  pub row : HasShape memory.row 1 limits.props
  pub marks : AreNoMarks limits memory.marks

-- nothing was read yet
pub record IsEmptyMemory (limits : Limits) (memory : OpeningMemory) : Type 0 where
  pub words : memory.words ≡ no_words limits
  pub files : memory.files ≡ no_files limits
  pub later : IsEmptyLater limits memory.later

-- the metadata that memory keeps of what was read
abbrev pub metadata_in : Limits → Words → Axioms → Files → List Bool → Metadata
metadata_in limits words axioms files marks =
    metadata_of limits words.dict words.declared axioms.slots.items files.catalog files.map files.ext marks

-- ---- words in use
-- the number has a word that is not in use
abbrev pub is_stray : Metadata → ℕ → Bool
is_stray k n = is_some (word_of k.dict n) && not (is_used k n)

pub record IsFirstStray (k : Metadata) (n : ℕ) : Type 0 where
  pub below : n < k.limits.props
  pub stray : IsTrue (is_stray k n)
  pub none_before : (m : ℕ) → m < n → is_stray k m ≡ false

abbrev pub HasStray : Metadata → OpenFault → Type 0
HasStray k (Damaged spot) = (n : ℕ) × (spot ≡ Word n) × IsFirstStray k n
HasStray k NoMemory = ⊥
HasStray k DiskFault = ⊥
HasStray k (TooShort len need) = ⊥

abbrev pub WordsChecked : {T : Type 0} → Metadata → Result T OpenFault → Type 0
WordsChecked k (Ok done) = (n : ℕ) → is_stray k n ≡ false
WordsChecked k (Err fault) = HasStray k fault

-- ---- the bitmap
-- the first bit that is not as its data block: taken or free
pub record IsFirstBit (limits : Limits) (at : ℕ → List ℕ) (taken : List Bool) (n : ℕ) : Type 0 where
  pub below : n < BLOCK_BITS * bitmap_blocks limits
  pub here : has_bitmap_bit limits at n ≢ is_taken taken n
  pub none_before : (m : ℕ) → m < n → has_bitmap_bit limits at m ≡ is_taken taken m

abbrev pub BitmapDiffers : Limits → (ℕ → List ℕ) → List Bool → OpenFault → Type 0
BitmapDiffers limits at taken (Damaged spot) = (n : ℕ) × (spot ≡ Bitmap n) × IsFirstBit limits at taken n
BitmapDiffers limits at taken DiskFault = Unit {0}
BitmapDiffers limits at taken NoMemory = ⊥
BitmapDiffers limits at taken (TooShort len need) = ⊥

abbrev pub BitmapChecked : {T : Type 0} → Limits → (ℕ → List ℕ) → List Bool → Result T OpenFault → Type 0
BitmapChecked limits at taken (Ok done) = AreBitmapBlocks limits at taken
BitmapChecked limits at taken (Err fault) = BitmapDiffers limits at taken fault

-- ---- rows
-- a row slot is spelled as the metadata requires, with zeros past the last number
abbrev pub IsRowSpelled : Limits → (ℕ → List ℕ) → Ext → ℕ → Type 0
IsRowSpelled limits at ext p = slot (row_slots limits) at p ≡ row_bytes ext p

pub record IsFirstRow (limits : Limits) (at : ℕ → List ℕ) (ext : Ext) (p : ℕ) : Type 0 where
  pub below : p < (row_slots limits).count
  pub differs : IsRowSpelled limits at ext p → ⊥
  pub same_before : (q : ℕ) → q < p → IsRowSpelled limits at ext q

-- the rows after the last one count as one
abbrev pub row_place : Limits → ℕ → ℕ
row_place limits p = if nat_lt p limits.props then p else limits.props

abbrev pub RowDiffers : Limits → (ℕ → List ℕ) → Ext → OpenFault → Type 0
RowDiffers limits at ext (Damaged spot) = (p : ℕ) × (spot ≡ Row (row_place limits p)) × IsFirstRow limits at ext p
RowDiffers limits at ext DiskFault = Unit {0}
RowDiffers limits at ext NoMemory = ⊥
RowDiffers limits at ext (TooShort len need) = ⊥

abbrev pub RowsChecked : {T : Type 0} → Limits → (ℕ → List ℕ) → Ext → Result T OpenFault → Type 0
RowsChecked limits at ext (Ok done) = (p : ℕ) → p < (row_slots limits).count → IsRowSpelled limits at ext p
RowsChecked limits at ext (Err fault) = RowDiffers limits at ext fault

-- ---- sets
-- a set is spelled as the metadata requires
abbrev pub IsSetSpelled : Limits → (ℕ → List ℕ) → Ext → ℕ → Type 0
IsSetSpelled limits at ext i = slot (set_slots limits) at i ≡ set_bytes (set_of ext i)

pub record IsFirstSet (limits : Limits) (at : ℕ → List ℕ) (ext : Ext) (i : ℕ) : Type 0 where
  pub below : i < (set_slots limits).count
  pub differs : IsSetSpelled limits at ext i → ⊥
  pub same_before : (j : ℕ) → j < i → IsSetSpelled limits at ext j

abbrev pub SetDiffers : Limits → (ℕ → List ℕ) → Ext → OpenFault → Type 0
SetDiffers limits at ext (Damaged spot) = (i : ℕ) × (spot ≡ Set i) × IsFirstSet limits at ext i
SetDiffers limits at ext DiskFault = Unit {0}
SetDiffers limits at ext NoMemory = ⊥
SetDiffers limits at ext (TooShort len need) = ⊥

abbrev pub SetsChecked : {T : Type 0} → Limits → (ℕ → List ℕ) → Ext → Result T OpenFault → Type 0
SetsChecked limits at ext (Ok done) = (i : ℕ) → i < (set_slots limits).count → IsSetSpelled limits at ext i
SetsChecked limits at ext (Err fault) = SetDiffers limits at ext fault

-- ---- all parts
-- words, axioms and files of all slots
pub record AreSlotsRead (limits : Limits) (words : Words) (axioms : Axioms) (files : Files) : Type 0 where
  pub words_are : AreFirstWords limits words limits.props
  pub axioms_are : AreFirstAxioms limits words axioms (axiom_slots limits).count
  pub files_are : AreFiles limits words axioms files

-- and the slots are spelled by them
pub record HasRead (limits : Limits) (at : ℕ → List ℕ) (words : Words) (axioms : Axioms) (files : Files) : Type 0 where
  pub words_are : AreFirstWords limits words limits.props
  pub axioms_are : AreFirstAxioms limits words axioms (axiom_slots limits).count
  pub files_are : AreFiles limits words axioms files
  pub properties : WordsAreSpelled limits at words limits.props
  pub pairs : AxiomsAreSpelled limits at axioms (axiom_slots limits).count
  pub records : FilesAreTold limits at words axioms files

-- and no check of a slot fails
pub record ArePassed (limits : Limits) (at : ℕ → List ℕ) (words : Words) (axioms : Axioms) (files : Files) : Type 0 where
  pub read : HasRead limits at words axioms files
  pub none : (spot : Spot) → rank spot < 5 → Fails limits at spot → ⊥

-- how reading the slots ended
abbrev pub SlotsEnded : Limits → (ℕ → List ℕ) → Words → Axioms → Result Files OpenFault → Type 0
SlotsEnded limits at words axioms (Ok files) = ArePassed limits at words axioms files
SlotsEnded limits at words axioms (Err fault) = PartsFail limits at fault

-- words, axioms and files of all slots, and each word is in use
pub record AreRead (limits : Limits) (words : Words) (axioms : Axioms) (files : Files) (marks : List Bool) : Type 0 where
  pub words_are : AreFirstWords limits words limits.props
  pub axioms_are : AreFirstAxioms limits words axioms (axiom_slots limits).count
  pub files_are : AreFiles limits words axioms files
  pub used : (n : ℕ) → is_stray (metadata_in limits words axioms files marks) n ≡ false

-- the blocks of all parts are spelled by them
pub record AreSpelled (limits : Limits) (at : ℕ → List ℕ) (words : Words) (axioms : Axioms) (files : Files) : Type 0 where
  pub properties : WordsAreSpelled limits at words limits.props
  pub pairs : AxiomsAreSpelled limits at axioms (axiom_slots limits).count
  pub records : FilesAreTold limits at words axioms files
  pub bitmap : AreBitmapBlocks limits at files.map
  pub rows : (p : ℕ) → p < (row_slots limits).count → IsRowSpelled limits at files.ext p
  pub sets : (i : ℕ) → i < (set_slots limits).count → IsSetSpelled limits at files.ext i

-- how reading all parts ended
abbrev pub PartsEnded : {T : Type 0} → Limits → (ℕ → List ℕ) → Words → Axioms → Files → Result T OpenFault → Type 0
PartsEnded limits at words axioms files (Ok done) = AreSpelled limits at words axioms files
PartsEnded limits at words axioms files (Err fault) = PartsFail limits at fault

abbrev pub LaterEnded : Limits → (ℕ → List ℕ) → Words → Axioms → Result Files OpenFault → Type 0
LaterEnded limits at words axioms (Ok files) = AreSpelled limits at words axioms files
LaterEnded limits at words axioms (Err fault) = PartsFail limits at fault

abbrev pub AllEnded : Limits → (ℕ → List ℕ) → Axioms → Result (Words × Files) OpenFault → Type 0
AllEnded limits at axioms (Ok parts) = AreSpelled limits at parts.0 axioms parts.1
AllEnded limits at axioms (Err fault) = PartsFail limits at fault

-- a store that represents a state, and is written in these blocks
pub record StoreTells (at : ℕ → List ℕ) (store : Stored) : Type 0 where
  pub state : State
  pub tells : Tells store.metadata at state
  pub written : IsWritten store.metadata at

abbrev pub StoreEnded : Limits → (ℕ → List ℕ) → Result Stored OpenFault → Type 0
StoreEnded limits at (Ok store) = StoreTells at store
StoreEnded limits at (Err fault) = PartsFail limits at fault
