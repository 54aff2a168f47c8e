use Rattle.std.proofs.Common.{arith}
use Rattle.lis_region.proofs.Pools.{free_are}
use Rattle.lis_region.proofs.pool.Pool.free.Goals as goal

pub returns : goal.returns
returns g c =
    let s = c.self.inside in
    let free = free_are s.width s.frames s.items.items s.taken.items s.given.items c.self.invariant.0 in
    rw (← c.self.view_is) (omega (arith, free, s.taken.ok.0, s.given.ok.0, c.len.ensures, c.len-2.ensures))
