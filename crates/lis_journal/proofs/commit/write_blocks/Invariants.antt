use Rattle.lis_journal.specs.Phases.{at_target}
use Rattle.lis_journal.proofs.Writing.{SoFar}
use Rattle.lis_journal.proofs.commit.write_blocks.Given as goal

abbrev pub invariant-loop-k : goal.invariant-loop-k
invariant-loop-k g l = SoFar (g.D.Disk.meaning l.initial.disk) (g.D.Disk.meaning l.disk) (at_target l.target l.stage.entries) l.k
