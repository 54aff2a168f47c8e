use Rattle.lis_bits.specs.Words.{Joins}
use Rattle.lis_bits.proofs.words.join.Given as goal

abbrev pub invariant-loop-i : goal.invariant-loop-i
invariant-loop-i g l = Joins (goal.F-post g l.op) l.initial.words l.words l.to l.from l.i
