use Rattle.lis_store.specs.Finding.{FindsWords}
use Rattle.lis_store.proofs.MetTests.{met_first}
use Rattle.lis_store.proofs.finding.find_met.Given as goal

-- the numbers of those among the words so far are found
abbrev pub invariant-loop-k : goal.invariant-loop-k
invariant-loop-k l = FindsWords l.metadata (met_first l.metadata l.size l.k) l.initial.search l.search
