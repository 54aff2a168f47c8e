use Rattle.std.proofs.Common.{◌≡◌}
use Rattle.lis_ports.specs.Calls.{FaultEnds}
use Rattle.lis_line.proofs.Carrying.{SoFar}
use Rattle.lis_line.proofs.carrier.carry_all.Given as goal

abbrev pub invariant-loop-request : goal.invariant-loop-request
invariant-loop-request g l = record {
  so_far : SoFar g.C.Item.InputItem.cut l.limit (g.S.Source.left l.fn.input) (g.S.Source.left l.input) l.reader (λ first. g.C.Carrier.has_done l.fn.carrier (g.T.Disk.meaning l.fn.station) first l.carrier (g.T.Disk.meaning l.station)) (g.C.Carrier.is_ready l.carrier (g.T.Disk.meaning l.station));
  input_faults : g.S.Source.faults l.input ≡ g.S.Source.faults l.fn.input;
  first_fault : FaultEnds (g.S.Source.faults l.fn.input) (g.S.Source.behind l.fn.input) (g.S.Source.behind l.input);
}

abbrev pub decreases-loop-request : goal.decreases-loop-request
decreases-loop-request g l = l.reader.stock.rest
