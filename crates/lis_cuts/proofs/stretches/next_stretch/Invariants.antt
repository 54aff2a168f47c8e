use Rattle.std.proofs.Common.{◌+◌, ◌≤◌, length}
use Rattle.lis_cuts.proofs.Stretched.{Passed}
use Rattle.lis_cuts.proofs.stretches.next_stretch.Given as goal

abbrev pub invariant-loop-text : goal.invariant-loop-text
invariant-loop-text l = record {
  passed : Passed l.place l.bytes l.rest l.hidden;
  few : l.hidden + length l.rest ≤ length l.bytes;
}

abbrev pub decreases-loop-text : goal.decreases-loop-text
decreases-loop-text l = length l.rest
