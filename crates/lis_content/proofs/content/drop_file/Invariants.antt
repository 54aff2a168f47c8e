use Rattle.std.proofs.Common.{drop}
use Rattle.lis_content.proofs.Taking.{Giving}
use Rattle.lis_content.proofs.content.drop_file.Given as goal

abbrev pub invariant-loop-n : goal.invariant-loop-n
invariant-loop-n l = Giving l.fn.map l.map l.blocks (drop l.n-index l.blocks)
