use Rattle.lis_open.proofs.AxiomsRead.{LinksBelow}
use Rattle.lis_open.proofs.axioms.link_tests.Given as goal

abbrev pub invariant-loop-number : goal.invariant-loop-number
invariant-loop-number l = LinksBelow l.words l.number l.initial.taxonomy l.taxonomy
