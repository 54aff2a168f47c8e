use Rattle.lis_open.specs.ReadWords.{LinksHeads}
use Rattle.lis_open.proofs.axioms.link_heads.Given as goal

abbrev pub invariant-loop-number : goal.invariant-loop-number
invariant-loop-number l = LinksHeads l.words l.number l.taxonomy
