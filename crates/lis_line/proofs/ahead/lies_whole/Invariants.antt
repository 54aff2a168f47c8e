use Rattle.std.proofs.Common.{length}
use Rattle.lis_line.proofs.Whole.{Passing}
use Rattle.lis_line.proofs.ahead.lies_whole.Given as goal

abbrev pub invariant-loop-line : goal.invariant-loop-line
invariant-loop-line l = Passing l.fn.bytes l.rest

abbrev pub decreases-loop-line : goal.decreases-loop-line
decreases-loop-line l = length l.rest
