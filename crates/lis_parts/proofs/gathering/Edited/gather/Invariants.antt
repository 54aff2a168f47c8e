use Rattle.std.proofs.Common.{◌≡◌, ◌-◌, ◌+◌, ◌≤◌, length}
use Rattle.std.specs.Io.KnownBytes.{Consumes}
use Rattle.lis_ports.specs.Calls.{FaultEnds}
use Rattle.lis_parts.specs.Putting.{view_limit}
use Rattle.lis_parts.proofs.gathering.Edited.gather.Given as goal

abbrev pub invariant-loop-self : goal.invariant-loop-self
invariant-loop-self g l = record {
  taken : Consumes (g.S.Source.left l.fn.source) (g.S.Source.left l.source) l.self;
  few : length l.self ≤ view_limit + 1;
  faults : g.S.Source.faults l.source ≡ g.S.Source.faults l.fn.source;
  first_fault : FaultEnds (g.S.Source.faults l.fn.source) (g.S.Source.behind l.fn.source) (g.S.Source.behind l.source);
}

abbrev pub decreases-loop-self : goal.decreases-loop-self
decreases-loop-self g l = (view_limit + 1) - length l.self
