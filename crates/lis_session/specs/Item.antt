-- What running one item does to an image and to what was shown, at one place or at several.
use Rattle.std.specs.Prelude.{◌≡◌, ◌≢◌, ◌⊎◌, ℕ, List, [], Result, Ok, Err, false, IsTrue}
use Rattle.std.specs.Io.KnownBytes.{append_known}
use Rattle.lis_ports.specs.Meaning.{Meaning}
use Rattle.lis_ports.specs.Runs.{Adds, Always}
use Rattle.lis_ports.specs.Calls.{Rose}
use Rattle.lis_ports.specs.Since.{Begins, Since}
use Rattle.lis_journal.specs.Images.{KeepsPast}
use Rattle.lis_model.specs.Image.{image_blocks}
use Rattle.lis_model.specs.State.{State}
use Rattle.lis_model.specs.Step.{SituationOf, OutcomeOf}
use Rattle.lis_store.specs.Stands.{Stands}
use Rattle.lis_store.specs.Stored.{Stored}
use Rattle.lis_session.specs.declared.end.End.{End}
use Rattle.lis_session.specs.declared.end.End.TheVariants.{DiskFault, OutputFault}
use Rattle.lis_journal.specs.Journal.{shape_of}

-- Nothing was shown and the image represents the state before, or a prefix of the reply was shown and the image represents the state after.
abbrev pub InItem : {P : Type 0} → State → OutcomeOf P → List ℕ → List ℕ → Type 0
InItem before outcome image shown =
    ((shown ≡ []) × Stands image before) ⊎ (Begins shown outcome.reply × Stands image outcome.next.state)

-- The station is honest, each image of it represents the state, and the values in memory fit it.
pub record FitsAt (fits : State → Type 0) (m : Meaning) (state : State) : Type 0 where
  pub honest : IsTrue m.is_honest
  pub stands : Always m (λ image. Stands image state)
  pub own : fits state

-- this was shown since the start, and the next state and place are reached
pub record Replied {P : Type 0} (next : SituationOf P) (old new : Meaning) (fits : State → Type 0) (place : P) (reply : List ℕ) : Type 0 where
  pub shown : new.shown ≡ append_known old.shown reply
  pub fitting : FitsAt fits new next.state
  pub at : place ≡ next.place

-- At Ok the whole reply was shown, and after a show fault a prefix of it; the step was made. After a disk fault only the moments say what
-- is on the disk.
abbrev pub ItemEnded : {P : Type 0} → OutcomeOf P → Meaning → Meaning → (State → Type 0) → P → Result (Unit {0}) End → Type 0
ItemEnded outcome old new fits place (Ok done) = Replied outcome.next old new fits place outcome.reply
ItemEnded outcome old new fits place (Err DiskFault) = Unit {0}
ItemEnded outcome old new fits place (Err OutputFault) = (shown : List ℕ) × Begins shown outcome.reply × Replied outcome.next old new fits place shown

-- One item with this outcome: what each moment in the call leaves, that the blocks past the image stay, and how it ended.
pub record OneItem {P : Type 0} (before : SituationOf P) (outcome : OutcomeOf P) (old new : Meaning) (result : Result (Unit {0}) End) (fits : State → Type 0) (place : P) : Type 0 where
  pub moments : Adds old new (Since old.shown (InItem before.state outcome))
  pub past : KeepsPast (image_blocks before.state.limits) old new
  pub ended : ItemEnded outcome old new fits place result

-- A command with this outcome is run at a place, whichever state fits; the values in memory fit it as `fits_before` and `fits` say.
abbrev pub Does : {P : Type 0} → (SituationOf P → OutcomeOf P) → (State → Type 0) → P → Meaning → Meaning → Result (Unit {0}) End → (State → Type 0) → P → Type 0
Does outcome fits_before place_before old new result fits place =
    (state : State) → FitsAt fits_before old state
    → OneItem (record { state = state; place = place_before }) (outcome (record { state = state; place = place_before })) old new result fits place

-- the same for an item, if `by` says what each item does
abbrev pub CarriesOut : {P I : Type 0} → (SituationOf P → I → OutcomeOf P) → (State → Type 0) → P → Meaning → Meaning → Result (Unit {0}) End → (State → Type 0) → P → I → Type 0
CarriesOut by fits_before place_before old new result fits place item = Does (λ now. by now item) fits_before place_before old new result fits place

-- the result is a fault only if its count rose; the other count stays
abbrev pub HasEndCause : Meaning → Meaning → Result (Unit {0}) End → Type 0
HasEndCause old new (Ok done) = (new.disk_faults ≡ old.disk_faults) × (new.show_faults ≡ old.show_faults)
HasEndCause old new (Err DiskFault) = Rose old.disk_faults new.disk_faults × (new.show_faults ≡ old.show_faults)
HasEndCause old new (Err OutputFault) = (new.disk_faults ≡ old.disk_faults) × Rose old.show_faults new.show_faults

-- only a disk fault breaks a store, and its limits and the length of its image stay
pub record StoreLeft (old new : Stored) (result : Result (Unit {0}) End) : Type 0 where
  pub limits : new.metadata.limits ≡ old.metadata.limits
  pub image : shape_of new.journal ≡ shape_of old.journal
  pub unbroken : result ≢ Err DiskFault → new.is_broken ≡ false

-- what no call changes of a station: whether it is honest, how long its disk is, and whether it records its moments
pub record IsSameStation (old new : Meaning) : Type 0 where
  pub honest : new.is_honest ≡ old.is_honest
  pub len : new.len ≡ old.len
  pub recorded : new.is_recorded ≡ old.is_recorded
