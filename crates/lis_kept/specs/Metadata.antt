-- The metadata of an image, what memory keeps of it, and the slots that it spells.
use Rattle.std.specs.Prelude.{ℕ, Bool, if◌then◌else◌, Option, Some, None, List, slice_index_or}
use Rattle.lis_blockmap.specs.Bitmap.{is_taken}
use Rattle.lis_dict.specs.Dict.{Dict, word_of}
use Rattle.lis_catalog.specs.Catalog.{Catalog, rec_at}
use Rattle.lis_ext.specs.Ext.{Ext}
use Rattle.lis_fields.specs.Records.{FileRecord}
use Rattle.lis_fields.specs.declared.slots.PropSlot.{PropSlot}
use Rattle.lis_fields.specs.declared.slots.PropSlot.TheVariants.{Free as FreeProp, Known, Declared}
use Rattle.lis_fields.specs.declared.slots.AxiomSlot.{AxiomSlot}
use Rattle.lis_fields.specs.declared.slots.AxiomSlot.TheVariants.{Free as FreeAxiom}
use Rattle.lis_fields.specs.declared.slots.FileSlot.{FileSlot}
use Rattle.lis_fields.specs.declared.slots.FileSlot.TheVariants.{Free as FreeFile, Used}
use Rattle.lis_model.specs.declared.limits.Limits.{Limits}

pub record Metadata : Type 0 where
  pub limits : Limits
  pub dict : Dict
  -- by number: the word that has it is declared
  pub declared : List Bool
  -- by slot, as many as whole blocks have
  pub axioms : List AxiomSlot
  pub catalog : Catalog
  -- by data block: it is taken
  pub taken : List Bool
  -- by file slot: the numbers of the words of the file's description
  pub ext : Ext
  -- by block: it must be written
  pub marks : List Bool

abbrev pub metadata_of : Limits → Dict → List Bool → List AxiomSlot → Catalog → List Bool → Ext → List Bool → Metadata
metadata_of limits dict declared axioms catalog taken ext marks = record {
  limits = limits;
  dict = dict;
  declared = declared;
  axioms = axioms;
  catalog = catalog;
  taken = taken;
  ext = ext;
  marks = marks;
}

-- ---- the slots that it spells
-- the property slot of a word, if there is one
abbrev pub property_by : Option (List ℕ) → Bool → PropSlot
property_by None is_declared = FreeProp
property_by (Some word) is_declared = if is_declared then Declared word else Known word

-- the property slot of a number
abbrev pub property_at : Dict → List Bool → ℕ → PropSlot
property_at dict declared n = property_by (word_of dict n) (is_taken declared n)

-- the axiom slot of a number
abbrev pub axiom_at : List AxiomSlot → ℕ → AxiomSlot
axiom_at axioms n = slice_index_or axioms n FreeAxiom

-- the file slot of a record, if there is one
abbrev pub file_by : Option FileRecord → FileSlot
file_by None = FreeFile
file_by (Some rec) = Used rec

-- the file slot of a number
abbrev pub record_at : Catalog → ℕ → FileSlot
record_at catalog n = file_by (rec_at catalog n)
