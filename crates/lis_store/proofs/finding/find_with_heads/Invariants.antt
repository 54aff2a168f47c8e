use Rattle.lis_store.proofs.Common.{take}
use Rattle.lis_store.specs.Describing.{with_heads}
use Rattle.lis_store.specs.Finding.{FindsWords}
use Rattle.lis_store.proofs.finding.find_with_heads.Given as goal

-- the numbers of the words so far and of their heads are found
abbrev pub invariant-loop-word : goal.invariant-loop-word
invariant-loop-word l = FindsWords l.metadata (with_heads (take l.word-index l.words)) l.initial.search l.search
