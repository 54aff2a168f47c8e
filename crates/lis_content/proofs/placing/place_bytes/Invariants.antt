use Rattle.std.proofs.Common.{length}
use Rattle.lis_content.proofs.Laying.{Laying}
use Rattle.lis_content.proofs.placing.place_bytes.Given as goal

abbrev pub invariant-loop-rest : goal.invariant-loop-rest
invariant-loop-rest g l = Laying l.base l.bytes l.rest l.fn.map l.map l.fn.journal l.journal (g.D.Disk.meaning l.initial.disk) (g.D.Disk.meaning l.disk) l.taken.items

abbrev pub decreases-loop-rest : goal.decreases-loop-rest
decreases-loop-rest g l = length l.rest
