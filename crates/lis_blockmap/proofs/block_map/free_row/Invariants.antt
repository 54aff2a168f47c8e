use Rattle.lis_blockmap.specs.Inside.{HasFree}
use Rattle.lis_blockmap.proofs.block_map.free_row.Given as goal

abbrev pub invariant-loop-n : goal.invariant-loop-n
invariant-loop-n l = HasFree l.rows l.blocks l.n
