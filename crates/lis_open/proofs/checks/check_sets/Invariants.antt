use Rattle.lis_open.proofs.Common.{◌≡◌, ℕ, ◌<◌, List, DiskFaultEnds, Fits}
use Rattle.lis_ports.specs.Calls.{OnlyReads}
use Rattle.lis_open.specs.Reading.{Recalls}
use Rattle.lis_open.specs.ReadAll.{IsSetSpelled}
use Rattle.lis_open.proofs.checks.check_sets.Given as goal

abbrev pub invariant-loop-i : goal.invariant-loop-i
invariant-loop-i g l =
    let start = g.D.Disk.meaning l.initial.disk in
    let now = g.D.Disk.meaning l.disk in
    record {
      reads : OnlyReads start now;
      faults : now.disk_faults ≡ start.disk_faults;
      first_fault : DiskFaultEnds start now;
      recalls : (kept : ℕ → List ℕ) → Fits l.journal start kept → Recalls l.initial.last kept → Recalls l.last kept;
      same : (kept : ℕ → List ℕ) → Fits l.journal start kept → Recalls l.initial.last kept → (j : ℕ) → j < l.i → IsSetSpelled l.limits kept l.ext j;
    }
