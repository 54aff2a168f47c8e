use Rattle.std.proofs.Common.{◌≡◌, ℕ, ◌+◌, ◌<◌, ◌≤◌, get_or}
use Rattle.lis_memdisk.specs.Changes.{picked_byte}
use Rattle.lis_memdisk.proofs.bytes.pick_bytes.Given as goal

abbrev pub invariant-loop-i : goal.invariant-loop-i
invariant-loop-i l = record {
  done : (k : ℕ) → k < l.i → get_or l.range k 0 ≡ picked_byte l.pick (l.place + k) (get_or l.bytes k 0) (get_or l.initial.range k 0);
  ahead : (k : ℕ) → l.i ≤ k → get_or l.range k 0 ≡ get_or l.initial.range k 0;
}
