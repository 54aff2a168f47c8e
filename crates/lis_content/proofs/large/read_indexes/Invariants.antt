use Rattle.lis_content.proofs.IndexesRead.{SoRead}
use Rattle.lis_content.proofs.large.read_indexes.Given as goal

abbrev pub invariant-loop-j : goal.invariant-loop-j
invariant-loop-j g l =
    SoRead (g.D.Disk.meaning l.initial.disk) (g.D.Disk.meaning l.disk) l.journal l.laid.version l.laid.base l.laid.blocks.now l.laid.size l.j l.formed l.numbers.items
