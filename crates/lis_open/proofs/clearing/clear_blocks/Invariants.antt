use Rattle.lis_open.proofs.Wiping.{HasCleared}
use Rattle.lis_open.proofs.clearing.clear_blocks.Given as goal

abbrev pub invariant-loop-n : goal.invariant-loop-n
invariant-loop-n g l = HasCleared (g.D.Disk.meaning l.initial.disk) (g.D.Disk.meaning l.disk) l.first l.end l.n
