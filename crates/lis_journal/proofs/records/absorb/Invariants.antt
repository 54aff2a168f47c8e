use Rattle.lis_journal.proofs.Absorbing.{SoAbsorbed}
use Rattle.lis_journal.proofs.records.absorb.Given as goal

abbrev pub invariant-loop-k : goal.invariant-loop-k
invariant-loop-k l = SoAbsorbed l.initial.latest l.stage.entries l.latest l.k
