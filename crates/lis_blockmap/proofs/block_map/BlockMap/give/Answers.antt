use Rattle.std.proofs.Common.{◌∙◌, ap, arith, true}
use Rattle.lis_blockmap.specs.Bitmap.{free_count}
use Rattle.lis_blockmap.proofs.Taken.{held_within, given_more, given_sound, taken_put, few_free}
use Rattle.lis_blockmap.proofs.block_map.BlockMap.give.Goals as goal

pub put-requires-clause-bit : goal.put-requires-clause-bit
put-requires-clause-bit c =
    let m = c.self.inside in
    let s = c.self.invariant in
    let held = rw (← c.self.view_is) at c.requires in
    omega (arith, s.wide, held_within m.rows m.blocks m.free c.args.n s held)

pub overflow_add-self : goal.overflow_add-self
overflow_add-self c =
    let m = c.self.inside in
    let s = c.self.invariant in
    omega (arith, s.counted, s.few, few_free m.rows m.blocks)

pub invariant_of-self : goal.invariant_of-self
invariant_of-self c =
    let m = c.self.inside in
    let s = c.self.invariant in
    let held = rw (← c.self.view_is) at c.requires in
    rw (c.put.ensures) (given_sound m.rows m.blocks m.free c.args.n s held)

pub returns-clause-given : goal.returns-clause-given
returns-clause-given c =
    let m = c.self.inside in
    let s = c.self.invariant in
    let held = rw (← c.self.view_is) at c.requires in
    rw (← c.self.view_is, c.put.ensures) (taken_put m.rows m.blocks c.args.n true s.tall s.wide (held_within m.rows m.blocks m.free c.args.n s held))

pub returns-clause-more : goal.returns-clause-more
returns-clause-more c =
    let m = c.self.inside in
    let s = c.self.invariant in
    let held = rw (← c.self.view_is) at c.requires in
    rw (← c.self.view_is, c.put.ensures)
    (ap free_count (taken_put m.rows m.blocks c.args.n true s.tall s.wide (held_within m.rows m.blocks m.free c.args.n s held)) ∙ given_more m.rows m.blocks m.free c.args.n s held)
