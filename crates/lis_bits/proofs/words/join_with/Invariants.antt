use Rattle.lis_bits.specs.Words.{JoinsWith}
use Rattle.lis_bits.proofs.words.join_with.Given as goal

abbrev pub invariant-loop-i : goal.invariant-loop-i
invariant-loop-i g l = JoinsWith (goal.F-post g l.op) l.initial.words l.words l.to l.others l.i
