use Rattle.lis_open.proofs.AxiomsRead.{AxiomsTurn}
use Rattle.lis_open.proofs.axioms.read_axioms.Given as goal

abbrev pub invariant-loop-k : goal.invariant-loop-k
invariant-loop-k g l = AxiomsTurn l.journal l.limits (g.D.Disk.meaning l.initial.disk) (g.D.Disk.meaning l.disk) l.initial.last l.last l.words l.axioms l.k
