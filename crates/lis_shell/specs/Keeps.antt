-- What each task keeps. `untouched` says that no input was taken, and `unmoved` that the station is as it was.
use Rattle.std.specs.Prelude.{◌≡◌, ◌⊎◌, ◌&&◌, not, ℕ, ◌^◌, List, [], false, Option, Some, None, IsTrue}
use Rattle.lis_ports.specs.Meaning.{Meaning}
use Rattle.lis_ports.specs.Calls.{IsShowCall}
use Rattle.lis_ports.specs.Runs.{IsDiskRun, Leaves, IsSettled, Always}
use Rattle.lis_journal.specs.Record.{block}
use Rattle.lis_line.specs.declared.carrier.Halt.{Halt}
use Rattle.lis_line.specs.declared.carrier.Halt.TheVariants.{End as AtEnd}
use Rattle.lis_model.specs.declared.limits.Limits.{Limits}
use Rattle.lis_model.specs.State.{State}
use Rattle.lis_model.specs.Step.{Situation, start_of}
use Rattle.lis_store.specs.Stands.{Stands}
use Rattle.lis_open.specs.declared.mounting.OpenFault.TheVariants.{TooShort}
use Rattle.lis_open.specs.Makes.{InMaking, IsSettledAt, IsSpare}
use Rattle.lis_open.specs.Opens.{FaultLeft}
use Rattle.lis_open.specs.Upgrades.{upgraded, GateLeft}
use Rattle.lis_session.specs.declared.end.End.{End}
use Rattle.lis_shell.specs.declared.status.Status.{Status}
use Rattle.lis_shell.specs.declared.status.Status.TheVariants.{Usage, Opening}
use Rattle.lis_shell.specs.declared.words.Task.{Task}
use Rattle.lis_shell.specs.declared.words.Task.TheVariants.{Try, Make, Upgrade, OnImage}
use Rattle.lis_shell.specs.declared.words.ImageTask.{ImageTask}
use Rattle.lis_shell.specs.declared.words.ImageTask.TheVariants.{Run, Load, Rooms, Dump, Grow, View, Put}
use Rattle.lis_shell.specs.Causes.{ByOpening, is_disk_fault, IsDiskFault, IsTryStatus}
use Rattle.lis_shell.specs.Image.{Work, is_opening, ImageKeeps}
use Rattle.lis_shell.specs.Tries.{Tries}
use Rattle.lis_shell.specs.MakesImage.{MadeImage}
use Rattle.lis_shell.specs.Runs.{running, loading, rooming}
use Rattle.lis_shell.specs.Grows.{growing, GrowEntry}
use Rattle.lis_shell.specs.Steps.{dumping, viewing, putting}
use Rattle.lis_shell.specs.Words.{name_in, text_in}

-- `try`: what was shown is what the model replies to the items of the input. The bytes of an honest
-- disk, and what a crash leaves of it, are as before.
pub record TryKeeps (limits : Limits) (left left_after : Option (List ℕ)) (old new : Meaning) (status : Status) : Type 0 where
  -- the end or the limit of the input, a fault of input or output, or out of memory
  pub only : IsTryStatus status
  pub disk : IsShowCall old new
  -- if the source's bytes are known: what was shown, and the state that was reached, by the status
  pub tries : (bytes : List ℕ) → left ≡ Some bytes
      → (end : Situation) × Tries (start_of limits) (2 ^ 40) bytes left_after old.shown new.shown end status

-- `make`: an image of the empty state, if the disk is long enough. If nothing is unsynced at the start, a crash leaves the initial image,
-- one of the empty state, or one of no state. The records, the data blocks and what is past the image stay. If the disk failed, each block
-- of these stays that a crash at the start left as it read.
pub record MakeKeeps (limits : Limits) (unmoved : Type 0) (old new : Meaning) (status : Status) : Type 0 where
  pub made : MadeImage limits old new status
  -- nothing is shown
  pub run : IsDiskRun old new
  pub making : IsTrue old.is_honest → IsSettled old old.bytes → Leaves old new (InMaking limits old.bytes)
  pub spare : (n : ℕ) → IsTrue old.is_honest → IsSpare limits n → (IsDiskFault status → IsSettledAt old n) → block n new.bytes ≡ block n old.bytes
  -- a disk that is too short is not touched
  pub short : (len need : ℕ) → status ≡ Opening (TooShort len need) → unmoved

-- `run`: a session of the commands of the input
abbrev pub RunKeeps : Type 0 → Type 0 → Option (List ℕ) → Option (List ℕ) → Meaning → Meaning → Status → Type 0
RunKeeps untouched unmoved left left_after old new status = ImageKeeps running untouched unmoved left left_after old new status

-- `load`: the same, with many changes in one commit
abbrev pub LoadKeeps : Type 0 → Type 0 → Option (List ℕ) → Option (List ℕ) → Meaning → Meaning → Status → Type 0
LoadKeeps untouched unmoved left left_after old new status = ImageKeeps loading untouched unmoved left left_after old new status

-- the work of each task on an image, if these are the words; what it keeps is `ImageKeeps` of this work
abbrev pub work_of : List (List ℕ) → ImageTask → Work
work_of words Run = running
work_of words Load = loading
work_of words Rooms = rooming
work_of words Dump = dumping
work_of words (Grow n) = growing n
work_of words View = viewing (name_in words) (text_in words)
work_of words Put = putting (name_in words) (text_in words)

-- the image represents the state, or the same state in version 2
abbrev pub UpgradeMoment : State → List ℕ → Type 0
UpgradeMoment state image = Stands image state ⊎ Stands image (upgraded state)

-- it is done only at its end, and then every image represents the state in version 2
abbrev pub IsAtEnd : Halt End → Type 0
IsAtEnd AtEnd = Unit {0}
IsAtEnd halt = ⊥

-- An upgrade shows nothing. If it is refused, nothing was done. If the disk failed, the gate may be put.
abbrev pub upgrading : Work
upgrading = record {
  takes_input = false;
  only_reads = false;
  undone = λ status. is_opening status && not (is_disk_fault status);
  may_end = IsAtEnd;
  input = λ bytes left halt. Unit {0};
  moment = λ state bytes image shown. (shown ≡ []) × UpgradeMoment state image;
  ended = λ state bytes left before new halt. Always new (λ image. Stands image (upgraded state));
}

-- `upgrade`: what it leaves, byte for byte, is what opening leaves, and, when it is done, with the gate put. If nothing is unsynced at the
-- start, each moment represents the state, or the same state in version 2.
pub record UpgradeKeeps (unmoved : Type 0) (old new : Meaning) (status : Status) : Type 0 where
  -- what each work keeps, for one that takes no input
  pub image : ImageKeeps upgrading (Unit {0}) unmoved None None old new status
  -- nothing is shown
  pub run : IsDiskRun old new
  pub left : IsTrue old.is_honest → ByOpening (FaultLeft old new) (λ halt. GateLeft old new) status
  pub settled_moments : (state : State) → GrowEntry old state → IsSettled old old.bytes → Leaves old new (UpgradeMoment state)

-- what is kept by each task, and by words that request none
abbrev pub KeptBy : List (List ℕ) → Option Task → Type 0 → Type 0 → Option (List ℕ) → Option (List ℕ) → Meaning → Meaning → Status → Type 0
KeptBy words None untouched unmoved left left_after old new status = (status ≡ Usage) × untouched × unmoved
KeptBy words (Some (Try limits)) untouched unmoved left left_after old new status = TryKeeps limits left left_after old new status
KeptBy words (Some (Make limits)) untouched unmoved left left_after old new status = MakeKeeps limits unmoved old new status × untouched
KeptBy words (Some (OnImage task)) untouched unmoved left left_after old new status =
    ImageKeeps (work_of words task) untouched unmoved left left_after old new status × ((work_of words task).takes_input ≡ false → untouched)
KeptBy words (Some Upgrade) untouched unmoved left left_after old new status = UpgradeKeeps unmoved old new status × untouched

-- what is kept by the words of the command line, by the task that they request
pub record TaskKeeps (words : List (List ℕ)) (task : Option Task) (untouched unmoved : Type 0) (left left_after : Option (List ℕ)) (old new : Meaning) (status : Status) : Type 0 where
  pub kept : KeptBy words task untouched unmoved left left_after old new status
