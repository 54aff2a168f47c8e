use Rattle.std.proofs.Common.{◌≡◌}
use Rattle.lis_ports.specs.Calls.{FaultEnds}
use Rattle.lis_line.proofs.Bytes.{Going}
use Rattle.lis_line.proofs.stock.read_line.Given as goal

abbrev pub invariant-loop-byte : goal.invariant-loop-byte
invariant-loop-byte g l = record {
  going : Going l.fn.stock l.stock (g.S.Source.left l.fn.source) (g.S.Source.left l.source) l.line.items;
  faults : g.S.Source.faults l.source ≡ g.S.Source.faults l.fn.source;
  first_fault : FaultEnds (g.S.Source.faults l.fn.source) (g.S.Source.behind l.fn.source) (g.S.Source.behind l.source);
}

abbrev pub decreases-loop-byte : goal.decreases-loop-byte
decreases-loop-byte g l = l.stock.rest
