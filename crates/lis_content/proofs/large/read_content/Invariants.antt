use Rattle.lis_content.proofs.Reading.{SoFar}
use Rattle.lis_content.proofs.large.read_content.Given as goal

abbrev pub invariant-loop-n : goal.invariant-loop-n
invariant-loop-n g l =
    SoFar (g.D.Disk.meaning l.initial.disk) (g.D.Disk.meaning l.disk) l.journal l.laid.version l.laid.base l.laid.blocks.now l.laid.size l.n l.index l.buf
