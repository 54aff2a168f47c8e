-- Changes that are held back, and their commit: what a session keeps.
use Rattle.std.proofs.Common.{◌≡◌, ◌≢◌, ◌∙◌, Result, Ok, Err, false, ap, refl}
use Rattle.lis_ports.specs.Meaning.{Meaning}
use Rattle.lis_ports.specs.Runs.{IsDiskRun}
use Rattle.lis_ports.specs.Calls.{DiskFaultEnds}
use Rattle.lis_store.specs.declared.change_fault.ChangeFault.{ChangeFault}
use Rattle.lis_store.specs.declared.change_fault.ChangeFault.TheVariants.{Refused, Disk}
use Rattle.lis_store.specs.Changes.{ChangeLeft, CommitLeft, HasChangeCause}
use Rattle.lis_store.specs.Stored.{Stored}
use Rattle.lis_session.specs.declared.end.End.TheVariants.{DiskFault}
use Rattle.lis_session.specs.Item.{HasEndCause}
use Rattle.lis_session.specs.Parts.{Ends, kept_up}

module _ {old new : Meaning} where
  kept_cause : (result : Result (Unit {0}) ChangeFault) → IsDiskRun old new → HasChangeCause old.disk_faults new.disk_faults result → HasEndCause old new (kept_up result)
  kept_cause (Ok u) run cause = (cause, run.show_faults)
  kept_cause (Err (Refused refusal)) run cause = (cause, run.show_faults)
  kept_cause (Err Disk) run cause = (cause, run.show_faults)

  pub kept_ends : (result : Result (Unit {0}) ChangeFault) → IsDiskRun old new → HasChangeCause old.disk_faults new.disk_faults result → DiskFaultEnds old new → Ends old new (kept_up result)
  kept_ends result run cause ends = record {
    cause = kept_cause result run cause;
    first_fault = ends.ends;
    same = record { honest = run.honest; len = run.len; recorded = run.recorded };
  }

pub unbroken_held : (old new : Stored) (result : Result (Unit {0}) ChangeFault) → old.is_broken ≡ false → ChangeLeft old new result → kept_up result ≢ Err DiskFault → new.is_broken ≡ false
unbroken_held old new (Ok u) unbroken left up = left
unbroken_held old new (Err (Refused refusal)) unbroken left up = ap (λ (k : Stored). k.is_broken) left ∙ unbroken
unbroken_held old new (Err Disk) unbroken left up = absurd (up refl)

pub unbroken_committed : (new : Stored) (result : Result (Unit {0}) ChangeFault) → CommitLeft new result → kept_up result ≢ Err DiskFault → new.is_broken ≡ false
unbroken_committed new (Ok u) left up = left.0
unbroken_committed new (Err (Refused refusal)) left up = absurd (cc left)
unbroken_committed new (Err Disk) left up = absurd (up refl)
