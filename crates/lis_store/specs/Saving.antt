-- How a command ends: what is marked is staged, and all that is staged is committed, or held back.
use Rattle.std.specs.Prelude.{◌-◌, ◌≡◌, ℕ, ◌+◌, ◌<◌, ◌≤◌, true, false, List, [], length, replicate, Result, OnOk, OnErr}
use Rattle.lis_ports.specs.Meaning.{Meaning}
use Rattle.lis_ports.specs.Runs.{Leaves}
use Rattle.lis_journal.specs.Journal.{Held, shape_of}
use Rattle.lis_journal.specs.Images.{StandsBut, StandsForAllOrNone, Fits, KeepsPast, is_among}
use Rattle.lis_journal.specs.Phases.{looked}
use Rattle.lis_model.specs.Image.{data_start}
use Rattle.lis_model.specs.State.{State}
use Rattle.lis_model.specs.Step.{Situation, Outcome, changed}
use Rattle.lis_kept.specs.Metadata.{Metadata}
use Rattle.lis_kept.specs.Areas.{IsSaved, is_marked, bitmap_home, marked_count}
use Rattle.lis_kept.specs.Image.{image_shape}
use Rattle.lis_kept.specs.Sound.{AreSound}
use Rattle.lis_kept.specs.Telling.{Tells}
use Rattle.lis_store.specs.declared.change_fault.ChangeFault.{ChangeFault}
use Rattle.lis_store.specs.Stands.{Stands}
use Rattle.lis_store.specs.Stored.{Stored, IsSound}
use Rattle.lis_store.specs.Changes.{Holds, EndsUnrefused}

-- the metadata without marks
abbrev pub clean : Metadata → Metadata
clean k = record k { marks = replicate (length k.marks) false }

-- the store of this metadata and this journal after they are saved
abbrev pub settled : Metadata → Held → Stored
settled k j = record { metadata = clean k; journal = record j { staged = []; placed = [] }; is_broken = false }

-- Placed blocks are data blocks, and the blocks of the bitmap that have their bits are marked.
abbrev pub ArePlaced : Metadata → Held → Type 0
ArePlaced k j = (n : ℕ) → is_among j.placed n ≡ true → (data_start k.limits ≤ n) × (is_marked k (bitmap_home k.limits (n - data_start k.limits)) ≡ true)

-- What is required of memory that will be saved.
pub record MayBeSaved (k : Stored) : Type 0 where
  -- after all of it is saved, it is the memory of a store
  pub settles : AreSound k.metadata → IsSound (settled k.metadata k.journal)
  -- the journal is that of the image, and may be used
  pub image : shape_of k.journal ≡ image_shape k.metadata.limits
  pub unbroken : k.journal.is_broken ≡ false
  -- what is placed is committed with the bitmap that shows it
  pub placed : ArePlaced k.metadata k.journal
  -- all that is marked can be staged
  pub room : length k.journal.staged + marked_count k.metadata ≤ k.journal.capacity.staged

-- By these blocks memory represents a state, and what is not marked is written.
pub record IsReady (k : Metadata) (at : ℕ → List ℕ) (s : State) : Type 0 where
  pub tells : Tells k at s
  pub saved : IsSaved k at

-- What is staged is kept, all or none of it, as a commit of the journal says.
pub record KeepsStaged {T : Type 0} (old new : Held) (before after : Meaning) (result : Result T ChangeFault) : Type 0 where
  pub moments : (kept : ℕ → List ℕ) → Fits old before kept → Leaves before after (StandsForAllOrNone old.layout old.placed kept old.staged)
  pub past : (kept : ℕ → List ℕ) → Fits old before kept → KeepsPast old.layout.blocks before after
  pub kept : OnOk result ((kept : ℕ → List ℕ) → Fits old before kept → Fits new after (looked old.staged kept))
  pub done : OnOk result (new ≡ record old { staged = []; records = new.records; placed = new.placed })
  pub none_placed : OnOk result (0 < length old.staged → new.placed ≡ [])
  pub broken : OnErr result (new ≡ record old { records = new.records; is_broken = true })

-- It is a change that may be held back, from any state that each image represents which keeps all but the placed blocks, to any state for
-- which the metadata is ready.
abbrev pub Saves : {T : Type 0} → Metadata → Held → Stored → Meaning → Meaning → Result T ChangeFault → Type 0
Saves k j new before after result =
    (base : State) (now : Situation) (outcome : Outcome) (t : State) (kept : ℕ → List ℕ) → Fits j before kept → k.limits ≡ base.limits
    → ((image : List ℕ) → StandsBut j.layout j.placed kept image → Stands image base)
    → (AreSound k → IsReady k (looked j.staged kept) t) → outcome ≡ changed now t → Holds base now outcome new before after result

-- What saving keeps of memory, whatever it answers.
pub record SaveKeeps {T : Type 0} (old new : Stored) (result : Result T ChangeFault) : Type 0 where
  -- it is that of a store
  pub sound : IsSound new
  -- only the marks are removed
  pub metadata : new.metadata ≡ record old.metadata { marks = new.metadata.marks }
  pub image : shape_of new.journal ≡ shape_of old.journal
  -- a fault of the disk breaks it, and nothing else does
  pub ended : EndsUnrefused new.is_broken result
