use Rattle.lis_blockmap.proofs.Taken.{one_more_bit}
use Rattle.lis_blockmap.proofs.block_map.free_row.Goals as goal

pub loop-n-preserved : goal.loop-n-preserved
loop-n-preserved c = rw c.put.ensures (one_more_bit c.loop-n.rows c.args.blocks c.loop-n.n c.loop-n.invariant c.loop-n-test.true)
