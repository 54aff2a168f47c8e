use Rattle.std.proofs.Common.{length}
use Rattle.lis_content.proofs.Indexing.{IsIndexing}
use Rattle.lis_content.proofs.placing.place_all.Given as goal

abbrev pub invariant-loop-rest : goal.invariant-loop-rest
invariant-loop-rest g l =
    IsIndexing l.version l.base l.bytes l.rest l.fn.map l.map l.fn.journal l.journal (g.D.Disk.meaning l.fn.disk) (g.D.Disk.meaning l.disk) l.slot.items

abbrev pub decreases-loop-rest : goal.decreases-loop-rest
decreases-loop-rest g l = length l.rest
