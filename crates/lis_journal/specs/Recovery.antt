-- What opening a journal does.
use Rattle.std.specs.Prelude.{◌≡◌, ◌⊎◌, ℕ, ◌≤◌, true, List, [], Option, Some, None, Result, Ok, Err, OnOk, IfOk, IsSomeAnd}
use Rattle.lis_ports.specs.Meaning.{Meaning}
use Rattle.lis_ports.specs.Runs.{Leaves, IsSettled}
use Rattle.lis_ports.specs.Calls.{Rose}
use Rattle.lis_journal.specs.declared.journal.JournalFault.{JournalFault}
use Rattle.lis_journal.specs.declared.journal.JournalFault.TheVariants.{DiskFault, BadRecord, NoMemory}
use Rattle.lis_journal.specs.declared.layout.Layout.{Layout}
use Rattle.lis_journal.specs.Record.{block, has_open, behind_gates, bad_record, replayed, recovered}
use Rattle.lis_journal.specs.Journal.{Held, no_records}
use Rattle.lis_journal.specs.Images.{StandsFor, FitsAt, Fits, KeepsPast}

-- A disk fault comes only if the count rose, and at each other result the count stays.
abbrev pub HasMountCause : {T : Type 0} → ℕ → ℕ → Result T JournalFault → Type 0
HasMountCause before now (Ok journal) = now ≡ before
HasMountCause before now (Err DiskFault) = Rose before now
HasMountCause before now (Err (BadRecord b)) = now ≡ before
HasMountCause before now (Err NoMemory) = now ≡ before

-- The image represents what the replayed image of these bytes has.
abbrev pub StandsForReplayed : Layout → List ℕ → List ℕ → Type 0
StandsForReplayed layout bytes image = IsSomeAnd (replayed layout bytes) (λ r. StandsFor layout (λ n. block n r) image)

-- What a crash leaves while records are written to their homes and gates are closed: a gate was open, the image represents what the
-- replayed image has, and the journal's bytes after the gates are those of before. The gates may be any bytes.
pub record InRecovery (layout : Layout) (bytes image : List ℕ) : Type 0 where
  pub opened : has_open bytes ≡ true
  pub stands : StandsForReplayed layout bytes image
  pub rest : behind_gates layout image ≡ behind_gates layout bytes

-- The result, by the bytes as they read at the start of the call.
abbrev pub MountEnded : Layout → Meaning → Meaning → Result Held JournalFault → Type 0
MountEnded layout old new (Ok journal) = IsSomeAnd (replayed layout old.bytes) (λ r. Fits journal new (λ n. block n r))
MountEnded layout old new (Err DiskFault) = Unit {0}
MountEnded layout old new (Err (BadRecord b)) =
    (replayed layout old.bytes ≡ None) × (bad_record layout old.bytes ≡ Some b) × IsSettled new old.bytes
MountEnded layout old new (Err NoMemory) = Unit {0}

-- How a recovery ended, by the first bad record.
abbrev pub RecoveryEnded : Layout → Meaning → Meaning → Option ℕ → Type 0
RecoveryEnded layout old new None =
    IsSomeAnd (replayed layout old.bytes) (λ r. FitsAt layout no_records [] new (λ n. block n r))
RecoveryEnded layout old new (Some b) =
    (replayed layout old.bytes ≡ None) × (bad_record layout old.bytes ≡ Some b) × IsSettled new old.bytes

-- A crash leaves the blocks from this number on as they read.
abbrev pub IsSettledPast : ℕ → Meaning → Type 0
IsSettledPast blocks m = (image : List ℕ) → m.images image → (n : ℕ) → blocks ≤ n → block n image ≡ block n m.bytes

-- A crash leaves what it could have left before, or what a recovery leaves.
abbrev pub LeftOrRecovering : Layout → Meaning → List ℕ → Type 0
LeftOrRecovering layout old image = old.images image ⊎ InRecovery layout old.bytes image

-- A recovery that returns the block of the first bad record, or none.
pub record Recovers {E : Type 0} (layout : Layout) (old new : Meaning) (result : Result (Option ℕ) E) : Type 0 where
  pub moments : Leaves old new (LeftOrRecovering layout old)
  pub images : OnOk result ((image : List ℕ) → new.images image → LeftOrRecovering layout old image)
  pub ended : IfOk result (RecoveryEnded layout old new)
  pub left : OnOk result (IsSettled new (recovered layout old.bytes))
  pub past : OnOk result (KeepsPast layout.blocks old new)
  pub settled_past : IsSettledPast layout.blocks old → KeepsPast layout.blocks old new
