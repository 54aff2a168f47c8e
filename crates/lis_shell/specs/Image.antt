-- What every word keeps that opens an image and then does one work on it.
use Rattle.std.specs.Prelude.{◌≡◌, ◌≢◌, ◌⊎◌, ◌||◌, ℕ, ◌<◌, List, [], Bool, true, false, Option, Some, Result, Ok, Err, IsTrue}
use Rattle.lis_limits.specs.declared.TheConstants.{BLOCK_LEN}
use Rattle.lis_ports.specs.Meaning.{Meaning}
use Rattle.lis_ports.specs.Calls.{IsUnchanged}
use Rattle.lis_ports.specs.Runs.{Adds, Leaves}
use Rattle.lis_journal.specs.Images.{KeepsPast}
use Rattle.lis_journal.specs.Record.{has_open}
use Rattle.lis_journal.specs.Recovery.{IsSettledPast}
use Rattle.lis_line.specs.declared.carrier.Halt.{Halt}
use Rattle.lis_line.specs.declared.carrier.Halt.TheVariants.{End as AtEnd, Limit, InputFault, Stopped}
use Rattle.lis_model.specs.declared.limits.Limits.{Limits}
use Rattle.lis_model.specs.declared.spot.Spot.{Spot}
use Rattle.lis_model.specs.Image.{image_blocks}
use Rattle.lis_model.specs.State.{State}
use Rattle.lis_store.specs.Stands.{Stands}
use Rattle.lis_open.specs.declared.mounting.OpenFault.{OpenFault}
use Rattle.lis_open.specs.declared.mounting.OpenFault.TheVariants.{TooShort, Damaged, DiskFault, NoMemory}
use Rattle.lis_open.specs.Checks.{FailsFirst}
use Rattle.lis_open.specs.Opens.{HasSuper, IsLongEnough, OpenRefused, Recovers, FaultLeft, InOpening, WasLeft, Unwritten}
use Rattle.lis_session.specs.declared.end.End.{End}
use Rattle.lis_session.specs.Runs.{OpensInto}
use Rattle.lis_session.specs.Session.{EachMoment, OpenedMoment}
use Rattle.lis_shell.specs.declared.status.Status.{Status}
use Rattle.lis_shell.specs.declared.status.Status.TheVariants.{Opening, Ended}
use Rattle.lis_shell.specs.Causes.{Counts, NoFault, ByOpening, IsDiskFault}

-- What is done on an opened image that represents a state, if the source had these bytes left at the start. A work states something of the
-- input only if it takes input.
pub record Work : Type 1 where
  pub takes_input : Bool
  -- whether it leaves the disk as it is
  pub only_reads : Bool
  -- the statuses after which nothing was done
  pub undone : Status → Bool
  -- how it may end, whatever the disk does
  pub may_end : Halt End → Type 0
  -- what its end says of the input, whatever the disk does
  pub input : List ℕ → Option (List ℕ) → Halt End → Type 0
  -- what a stop may leave: an image, and what was shown since the start
  pub moment : State → List ℕ → List ℕ → List ℕ → Type 0
  -- how it ended: what the source has left, and what had been shown at the start
  pub ended : State → List ℕ → Option (List ℕ) → Option (List ℕ) → Meaning → Halt End → Type 0

-- a work that takes no input ends when it is done, or when a station call failed
abbrev pub halted : Result (Unit {0}) End → Halt End
halted (Ok done) = AtEnd
halted (Err end) = Stopped end

abbrev pub ByResult : (Result (Unit {0}) End → Type 0) → Halt End → Type 0
ByResult P AtEnd = P (Ok tt)
ByResult P (Stopped end) = P (Err end)
ByResult P Limit = ⊥
ByResult P InputFault = ⊥

abbrev pub IsUnread : Halt End → Type 0
IsUnread halt = ByResult (λ result. Unit {0}) halt

-- the statuses of opening
abbrev pub is_opening : Status → Bool
is_opening (Opening fault) = true
is_opening status = false

-- how an opening ended, and what was done after it, if there was memory for that
abbrev pub status_of : {E : Type 0} → Result (Halt End) E → Status
status_of (Ok halt) = Ended halt
status_of (Err refused) = Opening NoMemory

-- the bytes that the source has left, as a work knows them that takes input
abbrev pub Told : Bool → Option (List ℕ) → List ℕ → Type 0
Told true left bytes = left ≡ Some bytes
Told false left bytes = Unit {0}

-- The station is honest, its image represents the state, and what the source has left is known.
pub record EntryWith (m : Meaning) (known : Type 0) (state : State) : Type 0 where
  pub honest : IsTrue m.is_honest
  pub stands : Stands m.bytes state
  pub told : known

-- An image that represents a state is refused only if memory runs out or the disk fails. No input was taken and nothing was shown. If
-- memory ran out, the image represents the same state.
abbrev pub Refused : Type 0 → State → Option (List ℕ) → Meaning → OpenFault → Type 0
Refused told state before new NoMemory = (new.shown ≡ before) × told × Stands new.bytes state
Refused told state before new DiskFault = (new.shown ≡ before) × told
Refused told state before new fault = ⊥

-- how an opening and the work after it ended on such an image
abbrev pub WorkEnded : Work → State → List ℕ → Option (List ℕ) → Option (List ℕ) → Meaning → Status → Type 0
WorkEnded work state bytes left before new status =
    ByOpening (Refused (Told work.takes_input left bytes) state before new) (work.ended state bytes left before new) status

-- If no call failed, it came to its end, with this. Or memory ran out at the opening.
abbrev pub Completes : Type 0 → Type 0 → State → Option (List ℕ) → Meaning → Status → Type 0
Completes told done state before new (Ended AtEnd) = done
Completes told done state before new (Opening NoMemory) = Refused told state before new NoMemory
Completes told done state before new status = ⊥

-- If no call failed, it came to its end, or to the limit of its input. Or memory ran out at the opening.
abbrev pub ComesToEnd : Work → State → List ℕ → Option (List ℕ) → Option (List ℕ) → Meaning → Status → Type 0
ComesToEnd work state bytes left before new (Ended AtEnd) = work.ended state bytes left before new AtEnd
ComesToEnd work state bytes left before new (Ended Limit) = work.ended state bytes left before new Limit
ComesToEnd work state bytes left before new (Opening NoMemory) = Refused (Told work.takes_input left bytes) state before new NoMemory
ComesToEnd work state bytes left before new status = ⊥

-- before the work: nothing was shown, and the image represents the state
abbrev pub NotBegun : State → List ℕ → List ℕ → Type 0
NotBegun state image shown = (shown ≡ []) × Stands image state

-- the work itself writes nothing: it only reads, or this status says that nothing was done
abbrev pub writes_nothing : Work → Status → Bool
writes_nothing work status = work.only_reads || work.undone status

-- The image was opened, and nothing else was done: it is left as opening leaves it. If memory ran out, nothing was written, or only the
-- work lacked memory.
abbrev pub OnlyOpened : Meaning → Meaning → Status → Type 0
OnlyOpened old new (Opening NoMemory) = IsUnchanged old new ⊎ Recovers old new
OnlyOpened old new status = ByOpening (FaultLeft old new) (λ halt. Recovers old new) status

-- Nothing was written, and each moment leaves what a crash at the start could have left, or the initial bytes. If the disk failed in
-- opening, only `moments` says what is left.
pub record NothingWritten (old new : Meaning) (status : Status) : Type 0 where
  pub left : status ≢ Opening DiskFault → Unwritten old new
  pub moments : Adds old new (λ image bytes. WasLeft old image)

-- The statuses of opening are exact, and what was opened represents a state.
abbrev pub IsJudged : Meaning → Meaning → Status → Type 0
IsJudged old new status = ByOpening (OpenRefused old new) (λ halt. IsLongEnough old × ((s : State) × Stands old.bytes s)) status

-- how the status depends on the length of the disk
pub record IsMeasured (old new : Meaning) (status : Status) (idle : Type 0) : Type 0 where
  -- less than a super block is too short, and nothing is done
  pub small : old.len < BLOCK_LEN → (status ≡ Opening (TooShort old.len BLOCK_LEN)) × idle
  -- the length of the disk, and a greater number
  pub numbers : (len need : ℕ) → status ≡ Opening (TooShort len need) → (len ≡ old.len) × (len < need)
  -- an honest disk is as it was
  pub same : (len need : ℕ) → status ≡ Opening (TooShort len need) → IsTrue old.is_honest → IsUnchanged old new

-- An image that represents no state is refused, and only what an open gate requires is written. What is past the image stays. If the disk
-- failed, this holds if a crash at the start left it as it read.
pub record Barred (old new : Meaning) (status : Status) : Type 0 where
  pub fault : OpenFault
  -- the status is one of opening
  pub is : status ≡ Opening fault
  -- what opening leaves, if the disk did not fail
  pub left : FaultLeft old new fault
  -- an image from before, or one in recovery
  pub moments : Leaves old new (InOpening old)
  pub past : (limits : Limits) → HasSuper limits old.bytes → (IsDiskFault status → IsSettledPast (image_blocks limits) old) → KeepsPast (image_blocks limits) old new

-- An opening, and the work after it. `untouched` says that no input was taken, and `unmoved` that the station is as it was. A refusal
-- leaves the input alone and shows nothing. If nothing was done, each moment says so. A work that itself writes nothing leaves what opening
-- leaves, and, if no gate is open, everything as it was. What is past the image stays. If the disk failed, this holds if a crash at the
-- start left it as it read.
pub record ImageKeeps (work : Work) (untouched unmoved : Type 0) (left left_after : Option (List ℕ)) (old new : Meaning) (status : Status) : Type 0 where
  -- a status of opening, or an end that the work may have
  pub only : ByOpening (λ fault. Unit {0}) work.may_end status
  -- each moment is one of the work, or an image from before; and how it ended
  pub runs : (state : State) (bytes : List ℕ) → EntryWith old (Told work.takes_input left bytes) state
      → OpensInto (work.moment state bytes) old new (WorkEnded work state bytes left_after old.shown new status)
  -- if nothing was done, each moment says so
  pub undone : (state : State) (bytes : List ℕ) → EntryWith old (Told work.takes_input left bytes) state → IsTrue (work.undone status)
      → Adds old new (OpenedMoment old (NotBegun state))
  pub past : (state : State) (bytes : List ℕ) → EntryWith old (Told work.takes_input left bytes) state
      → (IsDiskFault status → IsSettledPast (image_blocks state.limits) old) → KeepsPast (image_blocks state.limits) old new
  -- if the work itself writes nothing, what opening leaves
  pub opened : IsTrue (writes_nothing work status) → IsTrue old.is_honest → OnlyOpened old new status
  pub unwritten : IsTrue (writes_nothing work status) → IsTrue old.is_honest → has_open old.bytes ≡ false → NothingWritten old new status
  -- the statuses of opening are exact
  pub judged : IsTrue old.is_honest → IsJudged old new status
  -- the spot is that of the first check that fails
  pub spot : (spot : Spot) → status ≡ Opening (Damaged spot) → IsTrue old.is_honest → FailsFirst old.bytes spot
  pub idle : (fault : OpenFault) → status ≡ Opening fault → untouched × (new.shown ≡ old.shown)
  -- what its end says of the input, whatever the disk does
  pub input : (bytes : List ℕ) → left ≡ Some bytes → ByOpening (λ fault. Unit {0}) (work.input bytes left_after) status
  -- how the status depends on the length of the disk
  pub measured : IsMeasured old new status (untouched × unmoved)
  -- an image that represents no state
  pub barred : IsTrue old.is_honest → ((state : State) → Stands old.bytes state → ⊥) → Barred old new status

-- Each moment since the start is one of the work, or an image that a crash at the start could have left, with nothing shown since.
abbrev pub WorkHeadline : Work → Option (List ℕ) → Meaning → Meaning → Type 0
WorkHeadline work left old new =
    (state : State) (bytes : List ℕ) → EntryWith old (Told work.takes_input left bytes) state → EachMoment old new (OpenedMoment old (work.moment state bytes))

-- If nothing was done, nothing was shown at any moment since the start, and the image represented the state, or was one that a crash at the
-- start could have left.
abbrev pub UndoneHeadline : Work → Option (List ℕ) → Meaning → Meaning → Status → Type 0
UndoneHeadline work left old new status =
    (state : State) (bytes : List ℕ) → EntryWith old (Told work.takes_input left bytes) state → IsTrue (work.undone status)
    → EachMoment old new (OpenedMoment old (NotBegun state))

-- If no call failed, the work came to its end, or to the limit of its input; or memory ran out at the opening.
abbrev pub WorkComplete : Work → Option (List ℕ) → Option (List ℕ) → Counts → Counts → Meaning → Meaning → Status → Type 0
WorkComplete work left left_after faults faults_after old new status =
    (state : State) (bytes : List ℕ) → EntryWith old (Told work.takes_input left bytes) state → NoFault faults faults_after
    → ComesToEnd work state bytes left_after old.shown new status
