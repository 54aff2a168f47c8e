use Rattle.lis_open.proofs.Common.{◌≡◌, ℕ, ◌+◌, ◌<◌, List, DiskFaultEnds, Fits, bitmap_start}
use Rattle.lis_blockmap.specs.Bitmap.{bitmap_bytes}
use Rattle.lis_ports.specs.Calls.{OnlyReads}
use Rattle.lis_open.proofs.checks.check_bitmap.Given as goal

abbrev pub invariant-loop-n : goal.invariant-loop-n
invariant-loop-n g l =
    let start = g.D.Disk.meaning l.initial.disk in
    let now = g.D.Disk.meaning l.disk in
    record {
      reads : OnlyReads start now;
      faults : now.disk_faults ≡ start.disk_faults;
      first_fault : DiskFaultEnds start now;
      same : (kept : ℕ → List ℕ) → Fits l.journal start kept → (m : ℕ) → m < l.n → kept (bitmap_start l.limits + m) ≡ bitmap_bytes m l.map;
    }
