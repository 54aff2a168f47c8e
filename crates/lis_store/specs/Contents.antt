-- How the contents of files are put on the disk, and freed.
use Rattle.std.specs.Prelude.{◌≡◌, ℕ, ◌+◌, ◌≤◌, nat_lt, Bool, true, false, Option, None, Some, List, [], length, Result, Ok, Err, IsTrue}
use Rattle.std.specs.List.{list_all}
use Rattle.lis_limits.specs.declared.TheConstants.{SLOT_BLOCKS}
use Rattle.arrayvec.specs.ArrayVec.{ArrayVec}
use Rattle.lis_ports.specs.Meaning.{Meaning}
use Rattle.lis_ports.specs.Runs.{Leaves}
use Rattle.lis_journal.specs.Journal.{Held, shape_of}
use Rattle.lis_journal.specs.Images.{StandsBut, Fits, KeepsPast, JournalIsUsable, is_among}
use Rattle.lis_journal.specs.Phases.{looked}
use Rattle.lis_content.specs.Content.{given, marked, are_free, has_home}
use Rattle.lis_content.specs.Large.{is_large}
use Rattle.lis_content.specs.Placing.{Asks, homes_of}
use Rattle.lis_fields.specs.Records.{FileRecord}
use Rattle.lis_fields.specs.Layouts.{are_blocks}
use Rattle.lis_model.specs.declared.limits.Limits.{Limits}
use Rattle.lis_model.specs.Image.{bitmap_blocks, data_start}
use Rattle.lis_model.specs.State.{file_limit}
use Rattle.lis_kept.specs.Metadata.{Metadata}
use Rattle.lis_kept.specs.Areas.{is_marked, bitmap_home}
use Rattle.lis_kept.specs.Sound.{AreSound}
use Rattle.lis_kept.specs.Telling.{blocks_told}
use Rattle.lis_kept.specs.Changes.{Marks, Lands, GivesBack, Puts}
use Rattle.lis_store.specs.declared.change_fault.ChangeFault.{ChangeFault}
use Rattle.lis_store.specs.declared.change_fault.ChangeFault.TheVariants.{Refused, Disk}
use Rattle.lis_model.specs.Sets.{are_distinct, has_number}
use Rattle.lis_kept.specs.Image.{image_shape}
use Rattle.lis_store.specs.Stored.{Stored}
use Rattle.lis_store.specs.Changes.{ChangesDisk, EndsUnrefused}

-- the blocks of the file are blocks of the image
abbrev pub AreContentsWithin : Limits → (ℕ → List ℕ) → FileRecord → Type 0
AreContentsWithin limits at rec = IsTrue (list_all (λ n. nat_lt n limits.blocks) (blocks_told limits at rec))

-- These bytes may be put as a content, if there are blocks for them.
pub record IsReadyForContent (bytes : List ℕ) (k : Stored) (m : Meaning) : Type 0 where
  -- a file may have this many bytes
  pub short : length bytes ≤ file_limit k.metadata.limits
  -- the journal is that of the image, and no disk call failed
  pub image : shape_of k.journal ≡ image_shape k.metadata.limits
  pub usable : JournalIsUsable k.journal m
  pub whole : k.is_broken ≡ false
  -- nothing is placed, one more content can be staged, and before a large content nothing is staged
  pub unplaced : k.journal.placed ≡ []
  pub room : length k.journal.staged + SLOT_BLOCKS ≤ k.journal.capacity.staged
  pub alone : is_large (length bytes) ≡ true → k.journal.staged ≡ []

-- How a step ends that calls the disk before memory is saved: memory is in form, and a fault of the disk breaks the store.
pub record StepEnded {T : Type 0} (new : Stored) (before after : Meaning) (result : Result T ChangeFault) : Type 0 where
  pub sound : AreSound new.metadata
  pub ended : EndsUnrefused new.is_broken result
  pub disk : ChangesDisk before after result

-- The disk failed while a content was put, so only what is on it counts. At any moment a crash leaves all blocks as before, except spare
-- ones that were free. For a content that is not large it leaves all blocks.
pub record ContentTorn (bytes : List ℕ) (p q : Metadata) (old new : Held) (before after : Meaning) : Type 0 where
  pub metadata : q ≡ record p { taken = q.taken; marks = q.marks }
  pub image : shape_of new ≡ shape_of old
  pub spare : List ℕ
  pub were_free : IsTrue (are_free p.taken spare)
  pub small : is_large (length bytes) ≡ false → spare ≡ []
  pub moments : (kept : ℕ → List ℕ) → Fits old before kept → Leaves before after (StandsBut old.layout (homes_of (data_start p.limits) spare) kept)
  pub past : (kept : ℕ → List ℕ) → Fits old before kept → KeepsPast old.layout.blocks before after

-- The bytes are put into free blocks, and the block numbers for the slot are returned.
abbrev pub ContentPut : List ℕ → Metadata → Metadata → Held → Held → Meaning → Meaning → Result (ArrayVec ℕ) ChangeFault → Type 0
ContentPut bytes p q old new before after (Ok numbers) = Puts bytes numbers.items p q old new before after
ContentPut bytes p q old new before after (Err (Refused refusal)) = false ≡ true
ContentPut bytes p q old new before after (Err Disk) = ContentTorn bytes p q old new before after

-- The blocks of the file of a record are freed. The disk is only read, and after a disk fault no block is freed.
abbrev pub ContentGiven : {T : Type 0} → FileRecord → Metadata → Metadata → Held → Meaning → Meaning → Result T ChangeFault → Type 0
ContentGiven rec p q journal before after (Ok done) = GivesBack rec p q journal before × Asks journal before after
ContentGiven rec p q journal before after (Err (Refused refusal)) = false ≡ true
ContentGiven rec p q journal before after (Err Disk) = (q ≡ p) × Asks journal before after

-- the blocks of the file of a record, if there is one
abbrev pub blocks_gone : Limits → (ℕ → List ℕ) → Option FileRecord → List ℕ
blocks_gone limits at None = []
blocks_gone limits at (Some rec) = blocks_told limits at rec

-- The blocks of a file, if there is one, are freed and others taken. In version 1 they are freed first, and may be used again. In
-- versions 2 and 3 the others were free before.
pub data Trades (limits : Limits) (gone : Option FileRecord) (taken now : List Bool) (blocks : List ℕ) (at there : ℕ → List ℕ) : Type 0 where
  First : IsTrue (are_free (given taken (blocks_gone limits at gone)) blocks) → now ≡ marked (given taken (blocks_gone limits at gone)) blocks
      → Trades limits gone taken now blocks at there
  Last : IsTrue (are_free taken blocks) → now ≡ given (marked taken blocks) (blocks_gone limits there gone) → Trades limits gone taken now blocks at there

-- By what the disk kept: these blocks hold the bytes, and the blocks of the file of a record, if there is one, are freed instead.
pub record IsRenewed (bytes numbers blocks : List ℕ) (gone : Option FileRecord) (p q : Metadata) (was : ℕ → List ℕ) (old new : Held) (after : Meaning) : Type 0 where
  pub lands : Lands p.limits bytes numbers blocks (looked old.staged was) new after
  pub stays : (n : ℕ) → is_among new.placed n ≡ false → lands.kept n ≡ was n
  pub trades : Trades p.limits gone p.taken q.taken blocks (looked old.staged was) (looked new.staged lands.kept)

-- Bytes are put into blocks, instead of those of the file of a record if there is one. At any moment a crash leaves all blocks as before
-- except placed ones, which are among spare ones that were free.
pub record Renews (bytes numbers : List ℕ) (gone : Option FileRecord) (p q : Metadata) (old new : Held) (before after : Meaning) : Type 0 where
  pub metadata : q ≡ record p { taken = q.taken; marks = q.marks }
  pub marks : Marks (bitmap_blocks p.limits) p q
  pub in_form : IsTrue (are_blocks p.limits.version (length bytes) numbers)
  pub below : IsTrue (list_all (λ n. nat_lt n p.limits.blocks) numbers)
  pub image : shape_of new ≡ shape_of old
  pub broken : new.is_broken ≡ old.is_broken
  pub few_staged : length new.staged ≤ length old.staged + SLOT_BLOCKS
  pub unplaced : is_large (length bytes) ≡ false → new.placed ≡ []
  pub spare : List ℕ
  pub were_free : IsTrue (are_free p.taken spare)
  pub placed : (n : ℕ) → is_among new.placed n ≡ true → has_home (data_start p.limits) spare n ≡ true
  -- the bits of what is placed are yet to be written
  pub bitmap : (n : ℕ) → has_number spare n ≡ true → is_marked q (bitmap_home p.limits n) ≡ true
  pub moments : (kept : ℕ → List ℕ) → Fits old before kept → Leaves before after (StandsBut old.layout new.placed kept)
  pub past : (kept : ℕ → List ℕ) → Fits old before kept → KeepsPast old.layout.blocks before after
  pub blocks : List ℕ
  pub distinct : IsTrue (are_distinct blocks)
  pub renewed : (kept : ℕ → List ℕ) → Fits old before kept → IsRenewed bytes numbers blocks gone p q kept old new after

abbrev pub ContentRenewed : List ℕ → Option FileRecord → Metadata → Metadata → Held → Held → Meaning → Meaning → Result (ArrayVec ℕ) ChangeFault → Type 0
ContentRenewed bytes replaced p q old new before after (Ok numbers) = Renews bytes numbers.items replaced p q old new before after
ContentRenewed bytes replaced p q old new before after (Err (Refused refusal)) = false ≡ true
ContentRenewed bytes replaced p q old new before after (Err Disk) = ContentTorn bytes p q old new before after
