use Rattle.std.proofs.Common.{◌≡◌, ◌≤◌, length}
use Rattle.lis_ports.specs.Calls.{FaultEnds}
use Rattle.lis_line.proofs.Payloads.{Filling}
use Rattle.lis_line.proofs.payload.fill.Given as goal

abbrev pub invariant-loop-stock : goal.invariant-loop-stock
invariant-loop-stock g l = record {
  filling : Filling l.fn.stock l.stock (g.S.Source.left l.fn.source) (g.S.Source.left l.source) l.size l.payload;
  few : length l.stock.ahead ≤ l.stock.rest;
  faults : g.S.Source.faults l.source ≡ g.S.Source.faults l.fn.source;
  first_fault : FaultEnds (g.S.Source.faults l.fn.source) (g.S.Source.behind l.fn.source) (g.S.Source.behind l.source);
}

abbrev pub decreases-loop-stock : goal.decreases-loop-stock
decreases-loop-stock g l = l.stock.rest
