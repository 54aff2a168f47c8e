use Rattle.lis_kept.proofs.NearestFound.{NearestAmong}
use Rattle.lis_kept.proofs.test_edges.nearest.Given as goal

-- it is the nearest of the tests at the first places
abbrev pub invariant-loop-place : goal.invariant-loop-place
invariant-loop-place l = NearestAmong l.side l.dict l.declared l.test l.place l.nearest
