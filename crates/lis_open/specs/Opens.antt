-- How opening an image ends, and its causes.
use Rattle.std.specs.Prelude.{◌≡◌, ◌≢◌, ◌⊎◌, ℕ, ◌*◌, ◌≤◌, ◌<◌, List, Result, Ok, Err, IsTrue}
use Rattle.lis_limits.specs.declared.TheConstants.{BLOCK_LEN}
use Rattle.lis_ports.specs.Meaning.{Meaning}
use Rattle.lis_ports.specs.Calls.{Rose, IsUnchanged}
use Rattle.lis_ports.specs.Bytes.{part}
use Rattle.lis_ports.specs.Runs.{Leaves, IsSettled}
use Rattle.lis_journal.specs.Record.{recovered}
use Rattle.lis_journal.specs.Recovery.{InRecovery}
use Rattle.lis_journal.specs.declared.journal.JournalFault.{JournalFault}
use Rattle.lis_journal.specs.declared.journal.JournalFault.TheVariants.{DiskFault as JournalDisk, BadRecord as JournalRecord, NoMemory as JournalMemory}
use Rattle.lis_fields.specs.Layouts.{SpellsSuper}
use Rattle.lis_model.specs.declared.limits.Limits.{Limits}
use Rattle.lis_model.specs.declared.spot.Spot.TheVariants.{BadRecord}
use Rattle.lis_model.specs.Image.{image_blocks}
use Rattle.lis_model.specs.Ranges.{are_in_range}
use Rattle.lis_model.specs.State.{State}
use Rattle.lis_store.specs.Stands.{Stands}
use Rattle.lis_store.specs.Stored.{Stored, StoreFits}
use Rattle.lis_open.specs.declared.mounting.OpenFault.{OpenFault}
use Rattle.lis_open.specs.declared.mounting.OpenFault.TheVariants.{TooShort, Damaged, DiskFault, NoMemory}
use Rattle.lis_kept.specs.Image.{image_layout}

-- The result is a disk fault only if the count rose. With every other result the count stays.
abbrev pub HasOpenCause : {T : Type 0} → ℕ → ℕ → Result T OpenFault → Type 0
HasOpenCause before now (Ok store) = now ≡ before
HasOpenCause before now (Err (TooShort len need)) = now ≡ before
HasOpenCause before now (Err (Damaged spot)) = now ≡ before
HasOpenCause before now (Err DiskFault) = Rose before now
HasOpenCause before now (Err NoMemory) = now ≡ before

-- the image begins with a super block of these limits
pub record HasSuper (limits : Limits) (image : List ℕ) : Type 0 where
  pub range : IsTrue (are_in_range limits)
  pub spelled : SpellsSuper limits (part 0 BLOCK_LEN image)

-- how many bytes are needed: those of a super block, or those of the image that it describes
abbrev pub IsNeeded : List ℕ → ℕ → Type 0
IsNeeded image need = (need ≡ BLOCK_LEN) ⊎ ((limits : Limits) × HasSuper limits image × (need ≡ BLOCK_LEN * image_blocks limits))

-- the disk has as many bytes as are needed
abbrev pub IsLongEnough : Meaning → Type 0
IsLongEnough m = (need : ℕ) → IsNeeded m.bytes need → need ≤ m.len

-- The disk is too short exactly if there are fewer bytes than are needed. An image is refused exactly if it is long enough and represents
-- no state.
abbrev pub OpenRefused : Meaning → Meaning → OpenFault → Type 0
OpenRefused old new (TooShort len need) = (len ≡ old.len) × (len < need) × IsNeeded old.bytes need
OpenRefused old new (Damaged spot) = IsLongEnough old × ((s : State) → Stands old.bytes s → ⊥)
OpenRefused old new DiskFault = Unit {0}
OpenRefused old new NoMemory = IsLongEnough old × ((limits : Limits) × HasSuper limits old.bytes) × ((s : State) → Stands old.bytes s → Stands new.bytes s)

-- And it is opened exactly if it represents a state, which the store then fits.
abbrev pub OpenEnded : Meaning → Meaning → Result Stored OpenFault → Type 0
OpenEnded old new (Ok store) = IsLongEnough old × ((s : State) × Stands old.bytes s × StoreFits store new s)
OpenEnded old new (Err fault) = OpenRefused old new fault

-- Its journal was recovered, by the limits in the super block: the disk reads as what a recovery makes of it, and a crash leaves just this.
abbrev pub Recovers : Meaning → Meaning → Type 0
Recovers old new = (limits : Limits) × HasSuper limits old.bytes × IsSettled new (recovered (image_layout limits) old.bytes)

-- what is left if a check failed
abbrev pub RefusedLeft : Meaning → Meaning → Type 0
RefusedLeft old new = (((limits : Limits) → HasSuper limits old.bytes → ⊥) × IsUnchanged old new) ⊎ Recovers old new

-- What opening leaves if the disk did not fail: it writes only what the journal of the image requires, and nothing before it has its
-- memory.
abbrev pub FaultLeft : Meaning → Meaning → OpenFault → Type 0
FaultLeft old new (TooShort len need) = IsUnchanged old new
FaultLeft old new (Damaged spot) = RefusedLeft old new
FaultLeft old new DiskFault = Unit {0}
FaultLeft old new NoMemory = IsUnchanged old new

abbrev pub OpenLeft : Meaning → Meaning → Result Stored OpenFault → Type 0
OpenLeft old new (Ok store) = Recovers old new
OpenLeft old new (Err fault) = FaultLeft old new fault

-- what a crash could have left before, or the bytes as they read
abbrev pub WasLeft : Meaning → List ℕ → Type 0
WasLeft old image = old.images image ⊎ (image ≡ old.bytes)

-- Nothing was written: the disk reads as before, and a crash leaves what it could have left before, or these bytes.
pub record Unwritten (old new : Meaning) : Type 0 where
  pub bytes : new.bytes ≡ old.bytes
  pub images : (image : List ℕ) → new.images image → WasLeft old image

-- What opening leaves if no gate is open: nothing is written. If the disk failed, only `moments` says what is left.
pub record OpenUnwritten (old new : Meaning) (result : Result Stored OpenFault) : Type 0 where
  pub left : result ≢ Err DiskFault → Unwritten old new
  pub moments : Leaves old new old.images

-- what a crash in opening leaves: what it could have left before, or an image in the middle of a recovery
abbrev pub InOpening : Meaning → List ℕ → Type 0
InOpening old image = old.images image ⊎ ((limits : Limits) × HasSuper limits old.bytes × InRecovery (image_layout limits) old.bytes image)

-- the fault of opening that a fault of the journal becomes
abbrev pub journal_fault : JournalFault → OpenFault
journal_fault JournalDisk = DiskFault
journal_fault (JournalRecord b) = Damaged (BadRecord b)
journal_fault JournalMemory = NoMemory
