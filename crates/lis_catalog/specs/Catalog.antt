-- The files of an image as a contract sees them: a finite map from names to slots and records.
use Rattle.std.specs.Prelude.{◌≡◌, ℕ, ◌≤◌, ◌==◌, nat_lt, not, List, length, map, filter, slice_index_or, Option, None, IsTrue}
use Rattle.std.specs.declared.cmp.Ordering.{Ordering}
use Rattle.std.specs.BTreeSet.{insert_key}
use Rattle.std.specs.List.{find, list_all}
use Rattle.std.specs.Option.{option_map}
use Rattle.lis_graph.specs.Graph.{is_rising}
use Rattle.lis_words.specs.Words.{word_cmp, same_word, is_file_name}
use Rattle.lis_fields.specs.Records.{FileRecord}
use Rattle.lis_model.specs.Sets.{are_distinct}

-- a file's slot, and its record
pub record Filed : Type 0 where
  pub slot : ℕ
  pub rec : FileRecord

-- the files of an image that has `files` slots for them
pub record Catalog : Type 0 where
  pub files : ℕ
  -- in the order of the names
  pub entries : List Filed

abbrev pub names : Catalog → List (List ℕ)
names c = map (λ (f : Filed). f.rec.name) c.entries

abbrev pub slots : Catalog → List ℕ
slots c = map (λ (f : Filed). f.slot) c.entries

-- the slot of the file that has the name
abbrev pub slot_of : Catalog → List ℕ → Option ℕ
slot_of c name = option_map (λ (f : Filed). f.slot) (find (λ (f : Filed). same_word f.rec.name name) c.entries)

-- the record of the file in the slot
abbrev pub rec_at : Catalog → ℕ → Option FileRecord
rec_at c slot = option_map (λ (f : Filed). f.rec) (find (λ (f : Filed). f.slot == slot) c.entries)

-- files are in the order of their names
abbrev pub filed_cmp : Filed → Filed → Ordering
filed_cmp a b = word_cmp a.rec.name b.rec.name

-- with one more file
abbrev pub with_filed : Catalog → ℕ → FileRecord → Catalog
with_filed c slot rec = record c { entries = insert_key filed_cmp c.entries (record { slot = slot; rec = rec }) }

-- without the file in the slot
abbrev pub without_slot : Catalog → ℕ → Catalog
without_slot c slot = record c { entries = filter (λ (f : Filed). not (f.slot == slot)) c.entries }

-- what holds of every catalog
pub record IsCatalog (c : Catalog) : Type 0 where
  pub rising : IsTrue (is_rising word_cmp (names c))
  pub forms : IsTrue (list_all is_file_name (names c))
  pub below : IsTrue (list_all (λ (slot : ℕ). nat_lt slot c.files) (slots c))
  -- no two files have one slot
  pub apart : IsTrue (are_distinct (slots c))
  pub few : length c.entries ≤ c.files

-- the catalog has just these records, each with its place in the list as its slot
abbrev pub HasRecords : Catalog → List (Option FileRecord) → Type 0
HasRecords c records = (c.files ≡ length records) × ((slot : ℕ) → rec_at c slot ≡ slice_index_or records slot None)
