-- How the parts of an image are read, and what every reader guarantees. No public clause cites this module.
use Rattle.std.specs.Prelude.{◌≡◌, ℕ, ◌<◌, Bool, Option, Some, None, Result, Ok, Err, List, [], IsTrue, IfSome}
use Rattle.lis_ports.specs.Meaning.{Meaning}
use Rattle.lis_ports.specs.Calls.{Rose, DiskFaultEnds, OnlyReads}
use Rattle.lis_journal.specs.Journal.{Held, shape_of}
use Rattle.lis_journal.specs.Images.{JournalIsUsable}
use Rattle.lis_slots.specs.Slots.{Slots}
use Rattle.lis_model.specs.declared.limits.Limits.{Limits}
use Rattle.lis_model.specs.Ranges.{are_in_range}
use Rattle.lis_model.specs.declared.spot.Spot.{Spot}
use Rattle.lis_store.specs.Stored.{Stored}
use Rattle.lis_open.specs.declared.mounting.OpenFault.{OpenFault}
use Rattle.lis_open.specs.declared.mounting.OpenFault.TheVariants.{TooShort, Damaged, DiskFault, NoMemory}
use Rattle.lis_open.specs.declared.blocks.LastBlock.{LastBlock}
use Rattle.lis_open.specs.Opens.{HasSuper, OpenEnded, OpenLeft}
use Rattle.lis_open.specs.Checks.{IsSlot, Fails, rank, place, IsBefore, FailsFirst}
use Rattle.lis_kept.specs.Image.{image_shape}

-- An image may be read: its limits are in range, and its journal is as long as they say, has nothing staged and may be used on this disk.
pub record IsReadable (limits : Limits) (journal : Held) (m : Meaning) : Type 0 where
  pub range : IsTrue (are_in_range limits)
  pub image : shape_of journal ≡ image_shape limits
  pub clean : journal.staged ≡ []
  pub usable : JournalIsUsable journal m

-- ---- what readers guarantee
-- The cause of a reader's result. A reader allocates no memory, and finds no disk too short.
abbrev pub HasPartCause : {T : Type 0} → ℕ → ℕ → Result T OpenFault → Type 0
HasPartCause before now (Ok done) = now ≡ before
HasPartCause before now (Err (TooShort len need)) = ⊥
HasPartCause before now (Err (Damaged spot)) = now ≡ before
HasPartCause before now (Err DiskFault) = Rose before now
HasPartCause before now (Err NoMemory) = ⊥

-- what a reader of parts guarantees
pub record ReadsPart {T : Type 0} (old new : Meaning) (result : Result T OpenFault) : Type 0 where
  pub reads : OnlyReads old new
  pub cause : HasPartCause old.disk_faults new.disk_faults result
  pub first_fault : DiskFaultEnds old new

-- the block that was read last, if there is one, is as the disk keeps it
abbrev pub Recalls : LastBlock → (ℕ → List ℕ) → Type 0
Recalls last kept = IfSome last.number (λ n. last.bytes ≡ kept n)

-- ---- how readers end
-- the value as which a slot was read, or that the slot spells no value
abbrev pub IsReadAs : {X : Type 0} → (X → List ℕ) → (X → Bool) → Slots → (ℕ → List ℕ) → ℕ → Option X → Type 0
IsReadAs {X} spelled is_in_range slots at n None = (value : X) → IsSlot spelled is_in_range slots at n value → ⊥
IsReadAs spelled is_in_range slots at n (Some value) = IsSlot spelled is_in_range slots at n value

-- the check of a part of this kind fails, and no check of an earlier part of this kind
pub record IsFirst (limits : Limits) (at : ℕ → List ℕ) (kind : ℕ) (spot : Spot) : Type 0 where
  pub fails : Fails limits at spot
  pub is : rank spot ≡ kind
  pub none_before : (earlier : Spot) → rank earlier ≡ kind → place earlier < place spot → Fails limits at earlier → ⊥

-- how reading the parts of a kind ended
abbrev pub KindFails : Limits → (ℕ → List ℕ) → ℕ → OpenFault → Type 0
KindFails limits at kind (Damaged spot) = IsFirst limits at kind spot
KindFails limits at kind DiskFault = Unit {0}
KindFails limits at kind NoMemory = ⊥
KindFails limits at kind (TooShort len need) = ⊥

-- No check of this kind fails, and `good` holds. `Ends` says that a kind passes so, or that one of its checks fails and none before it.
pub record Passes (limits : Limits) (at : ℕ → List ℕ) (kind : ℕ) (good : Type 0) : Type 0 where
  pub none : (spot : Spot) → rank spot ≡ kind → Fails limits at spot → ⊥
  pub is : good

abbrev pub Ends : {T : Type 0} → Limits → (ℕ → List ℕ) → ℕ → Type 0 → Result T OpenFault → Type 0
Ends limits at kind good (Ok done) = Passes limits at kind good
Ends limits at kind good (Err fault) = KindFails limits at kind fault

-- ---- all parts
-- the check of the part fails, and no check of an earlier part
pub record IsFirstOfAll (limits : Limits) (at : ℕ → List ℕ) (spot : Spot) : Type 0 where
  pub fails : Fails limits at spot
  pub none_before : (earlier : Spot) → IsBefore earlier spot → Fails limits at earlier → ⊥

abbrev pub PartsFail : Limits → (ℕ → List ℕ) → OpenFault → Type 0
PartsFail limits at (Damaged spot) = IsFirstOfAll limits at spot
PartsFail limits at DiskFault = Unit {0}
PartsFail limits at NoMemory = ⊥
PartsFail limits at (TooShort len need) = ⊥

-- ---- opening
-- how it ended, and what it left; a spot is that of the first check that fails
pub record Opened (old new : Meaning) (result : Result Stored OpenFault) : Type 0 where
  pub ended : OpenEnded old new result
  pub left : OpenLeft old new result
  pub spot : (spot : Spot) → result ≡ Err (Damaged spot) → FailsFirst old.bytes spot

-- how reading the limits ended
abbrev pub LimitsRead : Meaning → Meaning → Result Limits OpenFault → Type 0
LimitsRead old new (Ok limits) = HasSuper limits old.bytes
LimitsRead old new (Err fault) = Opened old new (Err fault)
