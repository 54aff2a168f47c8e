-- How a file is put into a slot of memory, instead of another or into a free slot. Words are removed while the slot still has its old
-- description. The slot is described again once the other words have numbers, so each bit of the rows is edited at most once.
use Rattle.std.specs.Prelude.{◌≡◌, ℕ, ◌<◌, ◌≤◌, Option, None, Some, List, length, IsTrue, IsSomeAnd}
use Rattle.std.specs.List.{list_all}
use Rattle.std.specs.List.Sorted.{IsStrictlyIncreasing}
use Rattle.lis_limits.specs.declared.TheConstants.{MAX_ASSIGNED, MAX_DESCRIPTION}
use Rattle.lis_graph.specs.Graph.{is_rising}
use Rattle.lis_catalog.specs.Catalog.{slot_of, rec_at}
use Rattle.lis_ext.specs.Ext.{set_of}
use Rattle.lis_fields.specs.Records.{FileRecord}
use Rattle.lis_words.specs.Words.{is_built_in, is_file_name, word_cmp}
use Rattle.lis_model.specs.State.{File, State, is_assignable, file_limit, blocks_taken}
use Rattle.lis_model.specs.Changes.{file_removed}
use Rattle.lis_kept.specs.Metadata.{Metadata}
use Rattle.lis_kept.specs.Telling.{declared_of}
use Rattle.lis_kept.specs.Sound.{AreSound, FreeSlotsAreEmpty}
use Rattle.lis_kept.specs.Forgetting.{KeepsInUse, emptied}
use Rattle.lis_kept.specs.Changes.{Describes, Files}
use Rattle.lis_store.specs.Stored.{AreClosed, DescriptionsAreShort, TestsAreMet}
use Rattle.lis_store.specs.Drafts.{Draft, draft_of}
use Rattle.lis_store.specs.Admitting.{described_by, known_with, IsAdmitted}
use Rattle.lis_store.specs.Instead.{free_for}
use Rattle.lis_store.specs.Removing.{Vacates}
use Rattle.lis_store.specs.Replacing.{MayReplace}
use Rattle.lis_store.specs.Adding.{numbers_named, with_heads, LearnsAll, learnt_words}

-- what holds of the metadata of every store, whatever is marked
pub record AreInForm (k : Metadata) : Type 0 where
  pub sound : AreSound k
  pub free : FreeSlotsAreEmpty k
  pub closed : AreClosed k
  pub short : DescriptionsAreShort k
  pub in_use : KeepsInUse k
  pub tests : TestsAreMet k

-- ---- room for a file
-- the record that is removed when a file is put into the slot, if a slot is given
abbrev pub record_in : Metadata → Option ℕ → Option FileRecord
record_in k None = None
record_in k (Some slot) = rec_at k.catalog slot

-- the state without its file
abbrev pub file_gone : State → Option FileRecord → State
file_gone s None = s
file_gone s (Some rec) = file_removed s rec.name

-- A file that may be put into the slot, instead of the file there, or into a free one if no slot is given.
abbrev pub MayPut : Metadata → Option ℕ → Draft → Type 0
MayPut k None draft = IsAdmitted k draft
MayPut k (Some slot) draft = IsSomeAnd (rec_at k.catalog slot) (λ (rec : FileRecord). MayReplace k slot rec draft)

-- There are also enough blocks for it.
abbrev pub MayPutBytes : Metadata → Option ℕ → File → Type 0
MayPutBytes k slot file = MayPut k slot (draft_of file) × (blocks_taken k.limits.version (length file.bytes) ≤ free_for k (record_in k slot))

-- A file whose words may be assigned, and that has a new name.
pub record MayComeIn (k : Metadata) (draft : Draft) : Type 0 where
  pub name : IsTrue (is_file_name draft.name)
  pub new : slot_of k.catalog draft.name ≡ None
  pub set : IsTrue (is_rising word_cmp draft.assigned)
  pub assignable : IsTrue (list_all (is_assignable (declared_of k)) draft.assigned)
  pub few : length draft.assigned ≤ MAX_ASSIGNED
  pub own : IsTrue (list_all is_built_in draft.own)
  pub few_own : length draft.own ≤ MAX_DESCRIPTION
  pub short : length (described_by k draft) ≤ MAX_DESCRIPTION
  pub room : length (known_with k draft) ≤ k.limits.props
  pub small : draft.size ≤ file_limit k.limits

-- The slot has no file, and these numbers are its description. Without them memory is well formed.
pub record IsVacant (slot : ℕ) (old : List ℕ) (k : Metadata) : Type 0 where
  pub below : slot < k.limits.files
  pub spare : length k.catalog.entries < k.limits.files
  pub free : rec_at k.catalog slot ≡ None
  pub was : set_of k.ext slot ≡ old
  pub rising : IsStrictlyIncreasing old
  pub few : length old ≤ MAX_DESCRIPTION
  pub sound : AreSound k
  pub form : AreInForm (emptied k slot)

-- The file of the record is removed; if there is none, the slot is free.
abbrev pub MakesRoom : ℕ → Option FileRecord → Metadata → Metadata → Type 0
MakesRoom slot None p q = q ≡ p
MakesRoom slot (Some rec) p q = Vacates slot rec p q

-- ---- a file that is put in
-- The words of a file get numbers. These are the numbers of those that are assigned to it, and those of its description.
pub record LearnsOwn (draft : Draft) (tags numbers : List ℕ) (p q : Metadata) : Type 0 where
  pub learns : LearnsAll (with_heads (learnt_words draft)) p q
  pub sound : AreSound q
  pub tagged : tags ≡ numbers_named q.dict draft.assigned
  pub numbered : numbers ≡ numbers_named q.dict (described_by p draft)
  pub few : length numbers ≤ MAX_DESCRIPTION

-- the record of a file of these blocks
abbrev pub record_of : List ℕ → Draft → List ℕ → FileRecord
record_of tags draft blocks = record { name = draft.name; size = draft.size; tags = tags; blocks = blocks }

-- Its words get numbers, then the slot is described by them, and last its record is put there.
pub record SettlesIn (slot : ℕ) (draft : Draft) (blocks : List ℕ) (p q : Metadata) : Type 0 where
  pub learnt : Metadata
  pub own : LearnsOwn draft (numbers_named learnt.dict draft.assigned) (numbers_named learnt.dict (described_by p draft)) p learnt
  pub described : Metadata
  pub describes : Describes slot (numbers_named learnt.dict (described_by p draft)) learnt described
  pub files : Files slot (record_of (numbers_named learnt.dict draft.assigned) draft blocks) described q
  pub sound : AreSound q

-- The file of the record is removed, if there is one, and another is put into its slot or into a free one.
pub record RefilesIn (gone : Option FileRecord) (draft : Draft) (blocks : List ℕ) (p q : Metadata) : Type 0 where
  pub slot : ℕ
  pub old : List ℕ
  pub vacated : Metadata
  pub makes : MakesRoom slot gone p vacated
  pub vacant : IsVacant slot old vacated
  pub may : MayComeIn vacated draft
  pub settles : SettlesIn slot draft blocks vacated q
