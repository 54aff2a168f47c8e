use Rattle.std.proofs.Common.{◌≡◌, ◌+◌, ◌<◌, ◌≤◌, length}
use Rattle.lis_views.specs.Views.{pieces, runs_of}
use Rattle.lis_views.specs.Edits.{marked, run_at, view_marks}
use Rattle.lis_cuts.proofs.back.run_at.Given as goal

abbrev pub invariant-loop-run : goal.invariant-loop-run
invariant-loop-run l = record {
  same : run_at (marked l.number (runs_of (pieces l.rest l.place))) l.wanted ≡ run_at (view_marks l.old l.place) l.wanted;
  low : l.number + length l.rest ≤ length l.old + 1;
  one : 0 < l.number;
}

abbrev pub decreases-loop-run : goal.decreases-loop-run
decreases-loop-run l = length l.rest
