use Rattle.std.proofs.Common.{◌≡◌}
use Rattle.lis_ports.specs.Calls.{FaultEnds}
use Rattle.lis_model.specs.Script.{session_cut}
use Rattle.lis_line.proofs.Carrying.{SoFar}
use Rattle.lis_line.proofs.holder.carry_held.Given as goal

abbrev pub invariant-loop-fault : goal.invariant-loop-fault
invariant-loop-fault g l = record {
  so_far : SoFar session_cut l.limit (g.S.Source.left l.fn.input) (g.S.Source.left l.input) l.reader (λ first. g.C.Holder.has_done l.fn.carrier (g.T.Disk.meaning l.fn.station) first l.carrier (g.T.Disk.meaning l.station)) (g.C.Holder.is_ready l.carrier (g.T.Disk.meaning l.station));
  input_faults : g.S.Source.faults l.input ≡ g.S.Source.faults l.fn.input;
  first_fault : FaultEnds (g.S.Source.faults l.fn.input) (g.S.Source.behind l.fn.input) (g.S.Source.behind l.input);
}

abbrev pub decreases-loop-fault : goal.decreases-loop-fault
decreases-loop-fault g l = l.reader.stock.rest
