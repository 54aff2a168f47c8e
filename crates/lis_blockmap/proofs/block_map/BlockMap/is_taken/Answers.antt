use Rattle.std.proofs.Common.{sym, arith}
use Rattle.lis_blockmap.proofs.Taken.{get-taken_of, past-taken_of}
use Rattle.lis_blockmap.proofs.block_map.BlockMap.is_taken.Goals as goal

pub returns-then-n-self : goal.returns-then-n-self
returns-then-n-self c = rw (← c.self.view_is) (sym (past-taken_of c.self.inside.rows c.self.inside.blocks c.args.n c.if-n-self.true))

pub returns : goal.returns
returns c = rw (← c.self.view_is, c.get.ensures) (sym (get-taken_of c.self.inside.rows c.self.inside.blocks c.args.n (omega (arith, c.if-n-self.false))))
