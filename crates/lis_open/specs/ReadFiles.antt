-- What is read of files. No public clause cites this module.
use Rattle.std.specs.Prelude.{◌≡◌, ℕ, ◌≤◌, ◌<◌, nat_le, Bool, true, false, not, ◌&&◌, ◌||◌, is_some, Option, Some, None, Result, Ok, Err, List, [], ◌++◌, length, replicate, slice_index_or, slice_set, IsTrue}
use Rattle.std.specs.Option.{option_to_list}
use Rattle.std.specs.List.{list_all, flat_map, Contains}
use Rattle.lis_limits.specs.declared.TheConstants.{MAX_DESCRIPTION}
use Rattle.lis_slots.specs.Slots.{slot}
use Rattle.lis_blockmap.specs.Bitmap.{is_taken}
use Rattle.lis_content.specs.Content.{marked, are_free}
use Rattle.lis_dict.specs.Dict.{Dict, number_of, word_of}
use Rattle.lis_catalog.specs.Catalog.{Filed, IsCatalog, rec_at}
use Rattle.lis_ext.specs.Ext.{Ext, set_of, empty_ext}
use Rattle.lis_ext.specs.Numbers.{numbers_where}
use Rattle.lis_taxonomy.specs.Search.{is_found}
use Rattle.lis_taxonomy.specs.Taxonomy.{Taxonomy, any_entails}
use Rattle.lis_fields.specs.Records.{FileRecord}
use Rattle.lis_fields.specs.declared.slots.FileSlot.{FileSlot}
use Rattle.lis_fields.specs.declared.slots.FileSlot.TheVariants.{Free as FreeFile, Used}
use Rattle.lis_fields.specs.Layouts.{file_bytes}
use Rattle.lis_words.specs.Words.{is_valued, head_bytes}
use Rattle.lis_model.specs.declared.limits.Limits.{Limits}
use Rattle.lis_model.specs.Derived.{derived_words}
use Rattle.lis_model.specs.State.{file_words, blocks_needed, is_assignable}
use Rattle.lis_model.specs.Tests.{met_tests}
use Rattle.lis_kept.specs.Metadata.{file_by}
use Rattle.lis_kept.specs.Areas.{file_slots}
use Rattle.lis_kept.specs.Sound.{is_sound_record}
use Rattle.lis_kept.specs.Telling.{words_told, bytes_told, blocks_told, HasIndex, file_told, axioms_of}
use Rattle.lis_open.specs.declared.words.Words.{Words}
use Rattle.lis_open.specs.declared.axioms.Axioms.{Axioms}
use Rattle.lis_open.specs.declared.files.Files.{Files}
use Rattle.lis_open.specs.declared.files.FileSlots.{FileSlots}
use Rattle.lis_open.specs.declared.mounting.OpenFault.{OpenFault}
use Rattle.lis_open.specs.Checks.{FileFails}
use Rattle.lis_open.specs.Reading.{KindFails, Passes}
use Rattle.lis_open.specs.ReadWords.{declared_words, kept_words}
use Rattle.lis_model.specs.Sets.{are_distinct, has_number}

-- no slot was read
unfoldable pub no_files : Limits → FileSlots
no_files limits = record {
  unsorted = replicate limits.files None;
  map = replicate limits.blocks false;
  ext = empty_ext limits.props limits.files;
}

-- ---- descriptions
-- The numbers of a file's description, if it has these own numbers: all that they entail.
abbrev pub described : Taxonomy → List ℕ → List ℕ
described t own = numbers_where t.props (any_entails t own)

-- these numbers are found too
abbrev pub Gathered : List ℕ → List ℕ → List ℕ → Type 0
Gathered old found numbers = (n : ℕ) → is_found found n ≡ (is_found old n || has_number numbers n)

-- the word has a number, and so has its head if it is valued
abbrev pub is_numbered : Dict → List ℕ → Bool
is_numbered dict word = is_some (number_of dict word) && (not (is_valued word) || is_some (number_of dict (head_bytes word)))

abbrev pub numbers_of : Dict → List (List ℕ) → List ℕ
numbers_of dict words = flat_map (λ word. option_to_list (number_of dict word)) words

-- the words that are found in a file of this name and these bytes: those that are derived from it, and the declared tests that it meets
abbrev pub found_words : Words → List ℕ → List ℕ → List (List ℕ)
found_words words name bytes = derived_words name bytes ++ met_tests (declared_words words) (length bytes)

-- A file's own numbers: those of the words that are assigned to it, and those of the words that are found in it.
unfoldable pub own_numbers : Dict → List ℕ → List (List ℕ) → List ℕ
own_numbers dict tags found = tags ++ numbers_of dict found

-- the words that are found in a file have numbers, and its description is not too long
abbrev pub may_describe : Words → Taxonomy → FileRecord → List (List ℕ) → Bool
may_describe words t rec found =
    list_all (is_numbered words.dict) found && nat_le (length (described t (own_numbers words.dict rec.tags found))) MAX_DESCRIPTION

-- the numbers of a description, if a file may have it
abbrev pub AreDescribed : Words → Taxonomy → FileRecord → List (List ℕ) → Option (List ℕ) → Type 0
AreDescribed words t rec found None = may_describe words t rec found ≡ false
AreDescribed words t rec found (Some numbers) =
    (may_describe words t rec found ≡ true) × (numbers ≡ described t (own_numbers words.dict rec.tags found))

-- a slot has these numbers, if these words are found in its file
pub record HasNumbers (words : Words) (t : Taxonomy) (rec : FileRecord) (found : List (List ℕ)) (numbers : List ℕ) : Type 0 where
  pub numbered : IsTrue (list_all (is_numbered words.dict) found)
  pub are : numbers ≡ described t (own_numbers words.dict rec.tags found)

-- the slot has these numbers for some bytes of the file, as many as its record says
pub record HasSomeNumbers (words : Words) (t : Taxonomy) (rec : FileRecord) (numbers : List ℕ) : Type 0 where
  pub bytes : List ℕ
  pub sized : length bytes ≡ rec.size
  pub has : HasNumbers words t rec (found_words words rec.name bytes) numbers

abbrev pub AreNumbers : Words → Taxonomy → Option FileRecord → List ℕ → Type 0
AreNumbers words t None numbers = numbers ≡ []
AreNumbers words t (Some rec) numbers = HasSomeNumbers words t rec numbers

-- the numbers that were listed, or that there are more than a description may have
abbrev pub AreListed : List ℕ → Option (List ℕ) → Type 0
AreListed numbers None = MAX_DESCRIPTION < length numbers
AreListed numbers (Some listed) = (listed ≡ numbers) × (length numbers ≤ MAX_DESCRIPTION)

-- ---- records
-- the number has a word that may be assigned to files
abbrev pub is_assignable_by : Words → Option (List ℕ) → Bool
is_assignable_by words None = false
is_assignable_by words (Some word) = is_assignable (declared_words words) word

abbrev pub is_assignable_number : Words → ℕ → Bool
is_assignable_number words n = is_assignable_by words (word_of words.dict n)

-- ---- blocks
-- The blocks that are read for a file are usable: there are such blocks, no earlier file uses them, and none of them occurs twice.
pub record AreUsable (taken : List Bool) (slot blocks : List ℕ) : Type 0 where
  pub own : IsTrue (are_free taken slot)
  pub free : IsTrue (are_free taken blocks)
  pub distinct : IsTrue (are_distinct blocks)

-- a record's index blocks are well formed, and its blocks are usable
pub record HasBlocks (limits : Limits) (at : ℕ → List ℕ) (taken : List Bool) (rec : FileRecord) : Type 0 where
  pub indexed : HasIndex limits at rec
  pub free : IsTrue (are_free taken (blocks_told limits at rec))
  pub distinct : IsTrue (are_distinct (blocks_told limits at rec))

-- if true, the index blocks of a record are well formed, and these are its blocks; if false, it has no usable blocks
abbrev pub AreItsBlocks : Limits → (ℕ → List ℕ) → List Bool → FileRecord → List ℕ → Bool → Type 0
AreItsBlocks limits at taken rec blocks false = HasBlocks limits at taken rec → ⊥
AreItsBlocks limits at taken rec blocks true = HasIndex limits at rec × (blocks ≡ blocks_told limits at rec)

-- ---- one file
-- the slot is free for a file: it has none, and no numbers
pub record IsFreeSlot (slots : FileSlots) (slot : ℕ) : Type 0 where
  pub below : slot < length slots.unsorted
  pub empty : slice_index_or slots.unsorted slot None ≡ None
  pub within : slot < length slots.ext.sets
  pub undescribed : set_of slots.ext slot ≡ []

-- the record is in the slot, its blocks are taken, and the slot has these numbers
pub record TakesNumbers (slot : ℕ) (rec : FileRecord) (blocks numbers : List ℕ) (old new : FileSlots) : Type 0 where
  pub records : new.unsorted ≡ slice_set old.unsorted slot (Some rec)
  pub map : new.map ≡ marked old.map blocks
  pub props : new.ext.props ≡ old.ext.props
  pub sets : new.ext.sets ≡ slice_set old.ext.sets slot numbers
  pub settled : new.ext.marks ≡ []

-- These bytes give the same derived words as the others, and are as many.
pub record HaveWordsOf (name others bytes : List ℕ) : Type 0 where
  pub sized : length bytes ≡ length others
  pub words : derived_words name bytes ≡ derived_words name others

-- The bytes taken for those of a record's file give the same derived words as the bytes that the disk keeps, and the blocks are those that
-- the disk keeps.
pub record AreTold (limits : Limits) (at : ℕ → List ℕ) (rec : FileRecord) (bytes blocks : List ℕ) : Type 0 where
  pub has_words : HaveWordsOf rec.name (bytes_told limits at rec) bytes
  pub indexed : HasIndex limits at rec
  pub blocks_are : blocks ≡ blocks_told limits at rec

-- The record's file may be taken and is, with these blocks and the words of these bytes. The blocks and the words are those of each content
-- that the disk may keep.
pub record TakesRecord (limits : Limits) (MayBeKept : (ℕ → List ℕ) → Type 0) (words : Words) (t : Taxonomy) (slot : ℕ) (rec : FileRecord) (old new : FileSlots) : Type 0 where
  pub bytes : List ℕ
  pub blocks : List ℕ
  pub sized : length bytes ≡ rec.size
  pub given : list_all (is_assignable_number words) rec.tags ≡ true
  pub describes : may_describe words t rec (found_words words rec.name bytes) ≡ true
  pub usable : AreUsable old.map rec.blocks blocks
  pub takes : TakesNumbers slot rec blocks (described t (own_numbers words.dict rec.tags (found_words words rec.name bytes))) old new
  pub told : (kept : ℕ → List ℕ) → MayBeKept kept → AreTold limits kept rec bytes blocks

abbrev pub TakesFile : Limits → ((ℕ → List ℕ) → Type 0) → Words → Taxonomy → ℕ → Option FileSlot → FileSlots → FileSlots → Type 0
TakesFile limits MayBeKept words t slot None old new = ⊥
TakesFile limits MayBeKept words t slot (Some FreeFile) old new = new ≡ old
TakesFile limits MayBeKept words t slot (Some (Used rec)) old new = TakesRecord limits MayBeKept words t slot rec old new

-- why a record's file is not taken
pub data RecordFault (limits : Limits) (at : ℕ → List ℕ) (words : Words) (t : Taxonomy) (taken : List Bool) (rec : FileRecord) : Type 0 where
  NotAssignable : list_all (is_assignable_number words) rec.tags ≡ false → RecordFault limits at words t taken rec
  NoBlocks : (HasBlocks limits at taken rec → ⊥) → RecordFault limits at words t taken rec
  NotDescribed : may_describe words t rec (found_words words rec.name (bytes_told limits at rec)) ≡ false → RecordFault limits at words t taken rec

-- and why the file of a slot is not taken
abbrev pub HasSlotFault : Limits → (ℕ → List ℕ) → Words → Taxonomy → List Bool → Option FileSlot → Type 0
HasSlotFault limits at words t taken None = Unit {0}
HasSlotFault limits at words t taken (Some FreeFile) = ⊥
HasSlotFault limits at words t taken (Some (Used rec)) = RecordFault limits at words t taken rec

-- ---- files
-- the files that were taken: the record of each slot, the blocks in use, and the numbers of each slot
pub record TakenFiles : Type 0 where
  pub records : ℕ → Option FileRecord
  pub map : List Bool
  pub ext : Ext

-- those of slots that are not sorted yet
abbrev pub in_slots : FileSlots → TakenFiles
in_slots slots = record { records = λ n. slice_index_or slots.unsorted n None; map = slots.map; ext = slots.ext }

-- and those of a catalog
abbrev pub in_catalog : Files → TakenFiles
in_catalog files = record { records = λ n. rec_at files.catalog n; map = files.map; ext = files.ext }

-- Files of the slots below the end. Their words may be assigned, and the slots have the numbers of their descriptions.
pub record AreTaken (limits : Limits) (words : Words) (axioms : Axioms) (files : TakenFiles) (end : ℕ) : Type 0 where
  pub records : (slot : ℕ) (rec : FileRecord) → files.records slot ≡ Some rec → IsTrue (is_sound_record limits words.dict limits.blocks rec)
  pub given : (slot : ℕ) (rec : FileRecord) → files.records slot ≡ Some rec → IsTrue (list_all (is_assignable_number words) rec.tags)
  pub rest : (n : ℕ) → end ≤ n → files.records n ≡ None
  pub blocks : length files.map ≡ limits.blocks
  pub props : files.ext.props ≡ limits.props
  pub count : length files.ext.sets ≡ limits.files
  pub sets : (slot : ℕ) → AreNumbers words axioms.taxonomy (files.records slot) (set_of files.ext slot)
  pub short : (slot : ℕ) → length (set_of files.ext slot) ≤ MAX_DESCRIPTION
  pub settled : files.ext.marks ≡ []

-- The files of the slots below the end were taken, and of no other ones. A name may be there twice.
pub record AreFirstRecords (limits : Limits) (words : Words) (axioms : Axioms) (slots : FileSlots) (end : ℕ) : Type 0 where
  pub within : end ≤ limits.files
  pub long : length slots.unsorted ≡ limits.files
  pub taken : AreTaken limits words axioms (in_slots slots) end

-- the files of all slots, by their names
pub record AreFiles (limits : Limits) (words : Words) (axioms : Axioms) (files : Files) : Type 0 where
  pub slots : files.catalog.files ≡ limits.files
  pub catalog : IsCatalog files.catalog
  pub taken : AreTaken limits words axioms (in_catalog files) limits.files

abbrev pub FilesAreSpelled : Limits → (ℕ → List ℕ) → TakenFiles → ℕ → Type 0
FilesAreSpelled limits at files end =
    (n : ℕ) → n < end → slot (file_slots limits) at n ≡ file_bytes limits.version (file_by (files.records n))

-- the numbers of each file are those of the words that are found in it
abbrev pub FilesAreNumbered : Limits → (ℕ → List ℕ) → Words → Axioms → TakenFiles → Type 0
FilesAreNumbered limits at words axioms files =
    (slot : ℕ) (rec : FileRecord) → files.records slot ≡ Some rec
    → HasNumbers words axioms.taxonomy rec (found_words words rec.name (bytes_told limits at rec)) (set_of files.ext slot)

-- Their index blocks are well formed. The blocks that are taken are those of files, and none of them is used twice, by one file or by two.
pub record FilesHaveBlocks (limits : Limits) (at : ℕ → List ℕ) (files : TakenFiles) : Type 0 where
  pub indexed : (slot : ℕ) (rec : FileRecord) → files.records slot ≡ Some rec → HasIndex limits at rec
  pub distinct : (slot : ℕ) (rec : FileRecord) → files.records slot ≡ Some rec → IsTrue (are_distinct (blocks_told limits at rec))
  pub taken : (slot : ℕ) (rec : FileRecord) (n : ℕ) → files.records slot ≡ Some rec → has_number (blocks_told limits at rec) n ≡ true
      → is_taken files.map n ≡ true
  pub in_use : (n : ℕ) → is_taken files.map n ≡ true
      → (slot : ℕ) × (rec : FileRecord) × (files.records slot ≡ Some rec) × (has_number (blocks_told limits at rec) n ≡ true)
  pub one_use : (slot other : ℕ) (rec more : FileRecord) (n : ℕ) → files.records slot ≡ Some rec → files.records other ≡ Some more
      → has_number (blocks_told limits at rec) n ≡ true → has_number (blocks_told limits at more) n ≡ true → slot ≡ other

-- what blocks say of the files of the slots below the end
pub record AreSoFar (limits : Limits) (at : ℕ → List ℕ) (words : Words) (axioms : Axioms) (files : TakenFiles) (end : ℕ) : Type 0 where
  pub spelled : FilesAreSpelled limits at files end
  pub numbered : FilesAreNumbered limits at words axioms files
  pub blocks : FilesHaveBlocks limits at files

-- and the check of the slot at the end, if there is one, fails
pub record RecordsEnded (limits : Limits) (at : ℕ → List ℕ) (words : Words) (axioms : Axioms) (slots : FileSlots) (end : ℕ) : Type 0 where
  pub so_far : AreSoFar limits at words axioms (in_slots slots) end
  pub fails : end < limits.files → FileFails limits at end

-- the words of their numbers are their descriptions
abbrev pub FilesAreDescribed : Limits → (ℕ → List ℕ) → Words → Axioms → Files → Type 0
FilesAreDescribed limits at words axioms files =
    (f : Filed) → Contains files.catalog.entries f → words_told words.dict (set_of files.ext f.slot)
    ≡ file_words (declared_words words) (axioms_of (kept_words limits words axioms.slots.items)) (file_told limits words.dict at f)

pub record FilesAreTold (limits : Limits) (at : ℕ → List ℕ) (words : Words) (axioms : Axioms) (files : Files) : Type 0 where
  pub spelled : FilesAreSpelled limits at (in_catalog files) limits.files
  pub blocks : FilesHaveBlocks limits at (in_catalog files)
  pub described : FilesAreDescribed limits at words axioms files

-- how reading the file slots ended
abbrev pub FilesEnded : Limits → (ℕ → List ℕ) → Words → Axioms → Result Files OpenFault → Type 0
FilesEnded limits at words axioms (Ok files) = Passes limits at 4 (FilesAreTold limits at words axioms files)
FilesEnded limits at words axioms (Err fault) = KindFails limits at 4 fault
