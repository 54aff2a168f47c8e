-- What one call of a disk or a station does.
use Rattle.std.specs.Prelude.{◌≡◌, ◌⊎◌, ℕ, ◌+◌, ◌-◌, ◌^◌, ◌≤◌, min, max, List, length, IsTrue, Result, OnOk, OnErr}
use Rattle.lis_ports.specs.Meaning.{Meaning, Now, failed}
use Rattle.lis_ports.specs.Bytes.{put, Torn}
use Rattle.lis_ports.specs.Runs.{Adds, IsDiskRun, Leaves}

-- A count of faults rose: it is greater, or it is at its largest value, 2^64 - 1.
abbrev pub Rose : ℕ → ℕ → Type 0
Rose before now = min (before + 1) (2 ^ 64 - 1) ≤ now

-- A call fails only if this count of faults rose, and otherwise the count stays.
pub record HasCause {T E : Type 0} (before now : ℕ) (result : Result T E) : Type 0 where
  pub later : before ≤ now
  pub stays : OnOk result (now ≡ before)
  pub rose : OnErr result (Rose before now)

-- The first fault ends a run: no call of the run follows a fault of the run. When the last call began, no more calls had failed than at the
-- start of the run, or than when the last call before the run began.
abbrev pub FaultEnds : ℕ → ℕ → ℕ → Type 0
FaultEnds failed_at_first before now = now ≤ max before failed_at_first

-- Time goes on: a new moment is one of now.
abbrev pub Elapses : Meaning → Meaning → Type 0
Elapses old new = Adds old new (Now new)

-- what holds of each disk call, whatever it does to the bytes
pub record IsDiskCall {T E : Type 0} (old new : Meaning) (result : Result T E) : Type 0 where
  pub run : IsDiskRun old new
  pub time : Elapses old new
  pub cause : HasCause old.disk_faults new.disk_faults result
  pub began : new.behind ≡ failed old

-- The first fault of a run of station calls ends it: after it comes no disk call, and no call that shows.
abbrev pub StationFaultEnds : Meaning → Meaning → Type 0
StationFaultEnds old new = FaultEnds (failed old) old.behind new.behind

-- the same of a run of disk calls alone
pub record DiskFaultEnds (old new : Meaning) : Type 0 where
  pub shows : new.show_faults ≡ old.show_faults
  pub ends : StationFaultEnds old new

-- what holds of a run of disk calls that ends with one result: it fails only if a call failed, and that call was the last
pub record UsesDisk {T E : Type 0} (old new : Meaning) (result : Result T E) : Type 0 where
  pub run : IsDiskRun old new
  pub cause : HasCause old.disk_faults new.disk_faults result
  pub first_fault : DiskFaultEnds old new

-- The images of new are those with P. That each list with P is one is stated only of a disk that records its moments.
pub record Images (new : Meaning) (P : List ℕ → Type 0) : Type 0 where
  pub only : (image : List ℕ) → new.images image → P image
  pub each : IsTrue new.is_recorded → (image : List ℕ) → P image → new.images image

pub record IsUnchanged (old new : Meaning) : Type 0 where
  pub bytes : new.bytes ≡ old.bytes
  pub images : Images new old.images

-- a run that only reads: on an honest disk the bytes and the images stay, at each moment too
pub record OnlyReads (old new : Meaning) : Type 0 where
  pub run : IsDiskRun old new
  pub same : IsTrue old.is_honest → IsUnchanged old new
  pub moments : IsTrue old.is_honest → Leaves old new old.images

-- what holds of such a run that ends with one result
pub record ReadsDisk {T E : Type 0} (old new : Meaning) (result : Result T E) : Type 0 where
  pub reads : OnlyReads old new
  pub cause : HasCause old.disk_faults new.disk_faults result
  pub first_fault : DiskFaultEnds old new

-- After a write, failed or not: the range may read as any bytes, now and after a crash.
pub record IsTorn (at n : ℕ) (old new : Meaning) : Type 0 where
  pub bytes : Torn at n old.bytes new.bytes
  pub only : (image : List ℕ) → new.images image → (from : List ℕ) × old.images from × Torn at n from image
  pub grows : IsTrue old.is_recorded → (image : List ℕ) → old.images image → new.images image

-- After a write that succeeded: the disk reads as written, and a crash may leave any bytes in the range.
pub record IsWritten (at : ℕ) (bytes : List ℕ) (old new : Meaning) : Type 0 where
  pub reads : new.bytes ≡ put old.bytes at bytes
  pub each : IsTrue old.is_recorded → (from image : List ℕ) → old.images from → Torn at (length bytes) from image → new.images image

-- After a sync that succeeded: of the images, only the bytes as they read are left.
pub record IsSynced (old new : Meaning) : Type 0 where
  pub bytes : new.bytes ≡ old.bytes
  pub images : Images new (λ image. old.images image × (image ≡ old.bytes))

-- After a sync that failed: the images stay, and the disk reads as one of them.
pub record IsUnsynced (old new : Meaning) : Type 0 where
  pub bytes : old.images new.bytes ⊎ (new.bytes ≡ old.bytes)
  pub images : Images new old.images

-- what a call that shows leaves as it is
pub record IsShowCall (old new : Meaning) : Type 0 where
  pub honest : new.is_honest ≡ old.is_honest
  pub len : new.len ≡ old.len
  pub recorded : new.is_recorded ≡ old.is_recorded
  pub disk_faults : new.disk_faults ≡ old.disk_faults
  pub same : IsTrue old.is_honest → IsUnchanged old new
