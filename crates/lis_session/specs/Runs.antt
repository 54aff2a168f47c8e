-- How a session over an image ends, if `by` says what each item does and `cut` which items an input has.
use Rattle.std.specs.Prelude.{◌≡◌, ℕ, ◌≤◌, ◌<◌, List, length, Option, Some}
use Rattle.std.specs.Io.KnownBytes.{append_known, Consumes, IsAtEnd}
use Rattle.lis_ports.specs.Meaning.{Meaning}
use Rattle.lis_ports.specs.Runs.{Adds, Always}
use Rattle.lis_ports.specs.Since.{Since}
use Rattle.lis_journal.specs.Images.{KeepsPast}
use Rattle.lis_model.specs.declared.limits.Limits.{Limits}
use Rattle.lis_model.specs.Image.{image_blocks}
use Rattle.lis_model.specs.Step.{SituationOf, OutcomeOf, replies_by, after_by}
use Rattle.lis_model.specs.Script.{Cut, script_by}
use Rattle.lis_store.specs.Stands.{Stands}
use Rattle.lis_session.specs.declared.end.End.{End}
use Rattle.lis_session.specs.declared.end.End.TheVariants.{DiskFault, OutputFault}
use Rattle.lis_session.specs.Session.{SessionMoment, OpenedMoment}

-- What is done on an image of these limits: P holds at its moments, the blocks past the image stay, and `end` says how it ended.
pub record Goes (P : List ℕ → List ℕ → Type 0) (limits : Limits) (old new : Meaning) (end : Type 0) : Type 0 where
  pub moments : Adds old new (Since old.shown P)
  pub past : KeepsPast (image_blocks limits) old new
  pub ended : end

-- the same with an opening before it
pub record OpensInto (P : List ℕ → List ℕ → Type 0) (old new : Meaning) (end : Type 0) : Type 0 where
  pub moments : Adds old new (OpenedMoment old P)
  pub ended : end

module _ {P I : Type 0} (by : SituationOf P → I → OutcomeOf P) where
  -- a session
  abbrev pub Serves : SituationOf P → List I → Meaning → Meaning → Type 0 → Type 0
  Serves start items old new end = Goes (SessionMoment by start items) start.state.limits old new end

  -- These items were run, and their whole replies were shown. `before` is what had been shown at the start.
  pub record Carried (start : SituationOf P) (items : List I) (before : Option (List ℕ)) (new : Meaning) : Type 0 where
    pub shown : new.shown ≡ append_known before (replies_by by start items)
    pub stands : Always new (λ image. Stands image (after_by by start items).state)

  -- at a show fault: what was shown, with the bytes as they read and with each image, is a moment of the session
  pub record StopsAt (start : SituationOf P) (items : List I) (before : Option (List ℕ)) (new : Meaning) : Type 0 where
    pub bytes : List ℕ
    pub shown : new.shown ≡ append_known before bytes
    pub moment : Always new (λ image. SessionMoment by start items image bytes)

  -- at a fault in an item; after a disk fault only the moments say what is on the disk
  abbrev pub StoppedAt : SituationOf P → List I → Option (List ℕ) → Meaning → End → Type 0
  StoppedAt start items before new DiskFault = Unit {0}
  StoppedAt start items before new OutputFault = StopsAt start items before new

  module _ (cut : Cut I) (start : SituationOf P) (limit : ℕ) (bytes : List ℕ) where
    -- at the end of the input: all of its items
    pub record CarriedAll (left before : Option (List ℕ)) (new : Meaning) : Type 0 where
      pub short : length bytes ≤ limit
      pub at_end : IsAtEnd left
      pub carried : Carried start (script_by cut bytes limit) before new

    -- past the limit: the items that are whole within it
    pub record CarriedToLimit (before : Option (List ℕ)) (new : Meaning) : Type 0 where
      pub long : limit < length bytes
      pub carried : Carried start (script_by cut bytes limit) before new

    -- at a fault of the input: the items that are whole in the bytes taken, none of which is past the limit
    pub record CarriedWhole (left before : Option (List ℕ)) (new : Meaning) : Type 0 where
      pub taken : List ℕ
      pub consumed : Consumes (Some bytes) left taken
      pub within : length taken ≤ limit
      pub carried : Carried start (cut.whole taken) before new
