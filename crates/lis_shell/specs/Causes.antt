-- When each status is possible.
use Rattle.std.specs.Prelude.{◌≡◌, ℕ, Bool, true, false, IsTrue}
use Rattle.lis_ports.specs.Meaning.{Meaning}
use Rattle.lis_ports.specs.Calls.{Rose}
use Rattle.lis_line.specs.declared.carrier.Halt.{Halt}
use Rattle.lis_line.specs.declared.carrier.Halt.TheVariants.{InputFault, Stopped}
use Rattle.lis_open.specs.declared.mounting.OpenFault.{OpenFault}
use Rattle.lis_open.specs.declared.mounting.OpenFault.TheVariants.{DiskFault as DiskFailed, NoMemory}
use Rattle.lis_session.specs.declared.end.End.{End}
use Rattle.lis_session.specs.declared.end.End.TheVariants.{DiskFault, OutputFault}
use Rattle.lis_shell.specs.declared.status.Status.{Status}
use Rattle.lis_shell.specs.declared.status.Status.TheVariants.{Usage, Opening, Ended}

-- the counts of faults of a station and of a source
pub record Counts : Type 0 where
  pub disk : ℕ
  pub input : ℕ
  pub show : ℕ

abbrev pub counts : Meaning → ℕ → Counts
counts m input = record { disk = m.disk_faults; input = input; show = m.show_faults }

-- the disk failed, in an opening or after it
abbrev pub DiskRose : Counts → Counts → Type 0
DiskRose old new = Rose old.disk new.disk × (new.input ≡ old.input) × (new.show ≡ old.show)

-- the status is a fault only if its count rose, and then the other counts stay; every other status leaves all of them
abbrev pub HasStatusCause : Counts → Counts → Status → Type 0
HasStatusCause old new (Opening DiskFailed) = DiskRose old new
HasStatusCause old new (Ended (Stopped DiskFault)) = DiskRose old new
HasStatusCause old new (Ended (Stopped OutputFault)) = Rose old.show new.show × (new.disk ≡ old.disk) × (new.input ≡ old.input)
HasStatusCause old new (Ended InputFault) = Rose old.input new.input × (new.disk ≡ old.disk) × (new.show ≡ old.show)
HasStatusCause old new status = new ≡ old

-- no count of faults rose
pub record NoFault (old new : Counts) : Type 0 where
  pub disk : Rose old.disk new.disk → ⊥
  pub input : Rose old.input new.input → ⊥
  pub show : Rose old.show new.show → ⊥

-- a disk call failed
abbrev pub is_disk_fault : Status → Bool
is_disk_fault (Opening DiskFailed) = true
is_disk_fault (Ended (Stopped DiskFault)) = true
is_disk_fault status = false

abbrev pub IsDiskFault : Status → Type 0
IsDiskFault status = IsTrue (is_disk_fault status)

-- the words request something, and its opening failed, or it ended
abbrev pub ByOpening : (OpenFault → Type 0) → (Halt End → Type 0) → Status → Type 0
ByOpening opening ended Usage = ⊥
ByOpening opening ended (Opening fault) = opening fault
ByOpening opening ended (Ended halt) = ended halt

-- the statuses of a session over a plain state
abbrev pub IsTryStatus : Status → Type 0
IsTryStatus Usage = ⊥
IsTryStatus (Opening NoMemory) = Unit {0}
IsTryStatus (Opening fault) = ⊥
IsTryStatus (Ended (Stopped DiskFault)) = ⊥
IsTryStatus (Ended halt) = Unit {0}
