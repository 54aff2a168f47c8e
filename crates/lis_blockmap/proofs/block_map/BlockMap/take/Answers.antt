use Rattle.std.proofs.Common.{◌∙◌, ◌+◌, ap, arith, false}
use Rattle.lis_blockmap.specs.Bitmap.{free_count}
use Rattle.lis_blockmap.proofs.Taken.{length-taken_of, marked_fewer, marked_sound, taken_put}
use Rattle.lis_blockmap.proofs.block_map.BlockMap.take.Goals as goal

pub put-requires-clause-bit : goal.put-requires-clause-bit
put-requires-clause-bit c =
    let m = c.self.inside in
    let lt = rw (← c.self.view_is, length-taken_of m.rows m.blocks) at c.in_ok-n.ensures.within in
    omega (arith, lt, c.self.invariant.wide)

pub invariant_of-self : goal.invariant_of-self
invariant_of-self c =
    let m = c.self.inside in
    let lt = rw (← c.self.view_is, length-taken_of m.rows m.blocks) at c.in_ok-n.ensures.within in
    let is_free = rw (← c.self.view_is) at c.in_ok-n.ensures.free in
    rw c.put.ensures (marked_sound m.rows m.blocks m.free c.in_ok-n.n c.self.invariant lt is_free)

pub returns-clause-taken : goal.returns-clause-taken
returns-clause-taken c =
    let m = c.self.inside in
    let s = c.self.invariant in
    let lt = rw (← c.self.view_is, length-taken_of m.rows m.blocks) at c.in_ok-n.ensures.within in
    rw (← c.self.view_is, c.put.ensures) (taken_put m.rows m.blocks c.in_ok-n.n false s.tall s.wide lt)

pub returns-clause-fewer : goal.returns-clause-fewer
returns-clause-fewer c =
    let m = c.self.inside in
    let s = c.self.invariant in
    let lt = rw (← c.self.view_is, length-taken_of m.rows m.blocks) at c.in_ok-n.ensures.within in
    let is_free = rw (← c.self.view_is) at c.in_ok-n.ensures.free in
    rw (← c.self.view_is, c.put.ensures)
    (ap (λ t. free_count t + 1) (taken_put m.rows m.blocks c.in_ok-n.n false s.tall s.wide lt) ∙ marked_fewer m.rows m.blocks m.free c.in_ok-n.n s lt is_free)
