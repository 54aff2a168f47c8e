use Rattle.std.proofs.Common.{length}
use Rattle.lis_content.proofs.Taking.{Filling}
use Rattle.lis_content.proofs.content.stage_bytes.Given as goal

abbrev pub invariant-loop-rest : goal.invariant-loop-rest
invariant-loop-rest l = Filling l.base l.bytes l.rest l.fn.map l.map l.fn.journal l.journal l.taken.items

abbrev pub decreases-loop-rest : goal.decreases-loop-rest
decreases-loop-rest l = length l.rest
