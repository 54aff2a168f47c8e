use Rattle.lis_open.proofs.Common.{drop}
use Rattle.lis_open.proofs.Once.{Marking}
use Rattle.lis_open.proofs.files.mark_all.Given as goal

abbrev pub invariant-loop-block : goal.invariant-loop-block
invariant-loop-block l = Marking l.fn.map l.map l.blocks (drop l.block-index l.blocks)
