use Rattle.std.proofs.Common.{◌≡◌, take}
use Rattle.lis_table.specs.Links.{all_linked}
use Rattle.lis_table.proofs.links.linked.Given as goal

abbrev pub invariant-loop-word : goal.invariant-loop-word
invariant-loop-word l = l.all.items ≡ all_linked l.declared (take l.word-index l.words)
