use Rattle.std.proofs.Common.{◌≡◌}
use Rattle.lis_ports.specs.Calls.{FaultEnds}
use Rattle.lis_line.proofs.Asking.{Skipping}
use Rattle.lis_line.proofs.taken.take_asked.Given as goal

abbrev pub invariant-loop-asked : goal.invariant-loop-asked
invariant-loop-asked g l = record {
  skipping : Skipping g.I.InputItem.cut l.fn.stock l.stock (g.S.Source.left l.fn.source) (g.S.Source.left l.source);
  faults : g.S.Source.faults l.source ≡ g.S.Source.faults l.fn.source;
  first_fault : FaultEnds (g.S.Source.faults l.fn.source) (g.S.Source.behind l.fn.source) (g.S.Source.behind l.source);
}

abbrev pub decreases-loop-asked : goal.decreases-loop-asked
decreases-loop-asked g l = l.stock.rest
