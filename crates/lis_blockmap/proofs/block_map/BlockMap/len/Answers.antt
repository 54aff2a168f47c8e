use Rattle.std.proofs.Common.{sym}
use Rattle.lis_blockmap.proofs.Taken.{length-taken_of}
use Rattle.lis_blockmap.proofs.block_map.BlockMap.len.Goals as goal

pub returns-clause-value : goal.returns-clause-value
returns-clause-value c = rw (← c.self.view_is) (sym (length-taken_of c.self.inside.rows c.self.inside.blocks))
