use Rattle.std.proofs.Common.{◌-◌, length}
use Rattle.lis_taxonomy.specs.Steps.{MeetsTo}
use Rattle.lis_taxonomy.proofs.search.Search.meet_rights.Given as goal

abbrev pub invariant-loop-place : goal.invariant-loop-place
invariant-loop-place l = MeetsTo l.edges l.fn.self l.self l.number l.place

abbrev pub decreases-loop-place : goal.decreases-loop-place
decreases-loop-place l = length l.edges - l.place
