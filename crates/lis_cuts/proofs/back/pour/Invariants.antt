use Rattle.std.proofs.Common.{◌+◌, ◌<◌, ◌≤◌, length}
use Rattle.lis_views.specs.Lines.{lines_of}
use Rattle.lis_views.specs.Views.{pieces, runs_of}
use Rattle.lis_cuts.proofs.Pouring.{Pours}
use Rattle.lis_cuts.proofs.back.pour.Given as goal

abbrev pub invariant-loop-line : goal.invariant-loop-line
invariant-loop-line l = record {
  pours : Pours (runs_of (pieces l.old l.place)) (lines_of l.lines).texts l.is_open l.number (runs_of (pieces l.hidden l.place)) (lines_of l.rest).texts l.new;
  few : l.new.size + length l.rest + length l.hidden ≤ length l.lines + length l.old;
  low : l.number + length l.hidden ≤ length l.old + 1;
  one : 0 < l.number;
}

abbrev pub decreases-loop-line : goal.decreases-loop-line
decreases-loop-line l = length l.rest
