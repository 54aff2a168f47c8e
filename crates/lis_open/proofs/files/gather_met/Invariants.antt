use Rattle.lis_open.proofs.Gathering.{MetSoFar}
use Rattle.lis_open.proofs.files.gather_met.Given as goal

abbrev pub invariant-loop-k : goal.invariant-loop-k
invariant-loop-k l = MetSoFar l.words l.size l.fn.search l.search l.k
