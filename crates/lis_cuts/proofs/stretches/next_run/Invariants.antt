use Rattle.std.proofs.Common.{◌≡◌, ◌≤◌, length}
use Rattle.lis_views.specs.Views.{pieces, runs_of}
use Rattle.lis_cuts.proofs.stretches.next_run.Given as goal

abbrev pub invariant-loop-stretch : goal.invariant-loop-stretch
invariant-loop-stretch l = record {
  runs : runs_of (pieces l.rest l.place) ≡ runs_of (pieces l.bytes l.place);
  within : length l.rest ≤ length l.bytes;
}

abbrev pub decreases-loop-stretch : goal.decreases-loop-stretch
decreases-loop-stretch l = length l.rest
