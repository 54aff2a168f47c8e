use Rattle.std.proofs.Common.{length, ap, arith}
use Rattle.lis_region.proofs.Pools.{is_taken, within, items_at}
use Rattle.lis_region.proofs.Given.{taken_in_range}
use Rattle.lis_region.proofs.pool.Pool.items.Goals as goal

pub offset_bounds-deref-start : goal.offset_bounds-deref-start
offset_bounds-deref-start g c =
    let s = c.self.inside in
    let has = rw (← c.self.view_is, ← c.frame.view_is) at c.requires in
    let lt = taken_in_range s.taken.items c.frame.inside.number (is_taken s.width s.frames s.items.items s.taken.items s.given.items c.frame.inside.number has) in
    let there = within s.width s.frames s.items.items s.taken.items s.given.items c.frame.inside.number c.start_of-start.result c.start_of-start.ensures.place lt c.self.invariant.0 in
    omega (arith, there, ap length c.deref.ensures.value)

pub slice_bounds-result-end : goal.slice_bounds-result-end
slice_bounds-result-end g c =
    let s = c.self.inside in
    let has = rw (← c.self.view_is, ← c.frame.view_is) at c.requires in
    let lt = taken_in_range s.taken.items c.frame.inside.number (is_taken s.width s.frames s.items.items s.taken.items s.given.items c.frame.inside.number has) in
    let there = within s.width s.frames s.items.items s.taken.items s.given.items c.frame.inside.number c.start_of-start.result c.start_of-start.ensures.place lt c.self.invariant.0 in
    rw c.deref.ensures.value there

pub returns-clause-value : goal.returns-clause-value
returns-clause-value g c =
    let s = c.self.inside in
    let has = rw (← c.self.view_is, ← c.frame.view_is) at c.requires in
    rw (← c.self.view_is, ← c.frame.view_is, c.deref.ensures.value) (items_at s.width s.frames s.items.items s.taken.items s.given.items c.frame.inside.number c.start_of-start.result c.start_of-start.ensures.place has)
