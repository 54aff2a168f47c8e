-- How a catalog is held. No public clause cites this module.
use Rattle.std.specs.Prelude.{◌≡◌, ℕ, zero, suc, ◌<◌, ◌≤◌, ◌==◌, Bool, Option, None, is_some, List, [], ◌∷◌, length, map, count_by, slice_index_or, unwrap_or, IsTrue}
use Rattle.std.specs.declared.cmp.Ordering.TheVariants.{Less, Equal, Greater}
use Rattle.std.specs.List.{list_any}
use Rattle.lis_limits.specs.declared.TheConstants.{V3_MAX_FILES}
use Rattle.lis_words.specs.Words.{word_cmp}
use Rattle.lis_fields.specs.Records.{FileRecord}
use Rattle.lis_catalog.specs.Catalog.{Filed, Catalog, rec_at, IsCatalog}

abbrev pub Records : Type 0
Records = List (Option FileRecord)

abbrev pub no_record : FileRecord
no_record = record { name = []; size = 0; tags = []; blocks = [] }

-- the record in the slot
abbrev pub record_in : Records → ℕ → FileRecord
record_in records slot = unwrap_or (slice_index_or records slot None) no_record

-- its name
abbrev pub name_in : Records → ℕ → List ℕ
name_in records slot = (record_in records slot).name

-- the slot, with its record
abbrev pub filed_in : Records → ℕ → Filed
filed_in records slot = record { slot = slot; rec = record_in records slot }

-- the catalog of these slots, in the order of their names
abbrev pub catalog_of : ℕ → Records → List ℕ → Catalog
catalog_of files records order = record { files = files; entries = map (filed_in records) order }

-- what the parts keep; `room` is how many slots the order has memory for
pub record IsHeld (files : ℕ) (records : Records) (order : List ℕ) (room : ℕ) : Type 0 where
  -- each slot is once in the order, and the names rise
  pub catalog : IsCatalog (catalog_of files records order)
  pub limit : files ≤ V3_MAX_FILES
  pub has_room : files ≤ room
  pub long : length records ≡ files
  -- exactly the slots in the order have a record
  pub told : (n : ℕ) → slice_index_or records n None ≡ rec_at (catalog_of files records order) n
  pub counted : count_by is_some records ≡ length order

-- all slots below this one have files
abbrev pub AreTaken : Records → ℕ → Type 0
AreTaken records free_from = (n : ℕ) → n < free_from → IsTrue (is_some (slice_index_or records n None))

-- what the fields keep: the parts, and where a search for a free slot may start
pub record IsKeptCatalog (files free_from : ℕ) (records : Records) (order : List ℕ) (room : ℕ) : Type 0 where
  pub held : IsHeld files records order room
  pub taken : AreTaken records free_from

-- some file is in the slot
abbrev pub has_slot : List Filed → ℕ → Bool
has_slot entries slot = list_any (λ (f : Filed). f.slot == slot) entries

abbrev pub slot_list : List Filed → List ℕ
slot_list entries = map (λ (f : Filed). f.slot) entries

-- the file at this index has the name, and those before it have lower names
abbrev pub FoundAt : List ℕ → ℕ → List Filed → Type 0
FoundAt name n [] = ⊥
FoundAt name zero (f ∷ fs) = word_cmp name f.rec.name ≡ Equal
FoundAt name (suc n) (f ∷ fs) = (word_cmp name f.rec.name ≡ Greater) × FoundAt name n fs

-- a name that no file has belongs at this index
abbrev pub PlaceFor : List ℕ → ℕ → List Filed → Type 0
PlaceFor name zero [] = Unit {0}
PlaceFor name zero (f ∷ fs) = word_cmp name f.rec.name ≡ Less
PlaceFor name (suc n) [] = ⊥
PlaceFor name (suc n) (f ∷ fs) = (word_cmp name f.rec.name ≡ Greater) × PlaceFor name n fs
