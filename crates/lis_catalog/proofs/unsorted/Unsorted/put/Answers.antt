use Rattle.std.proofs.Common.{arith}
use Rattle.lis_catalog.proofs.Held.{some_room}
use Rattle.lis_catalog.proofs.unsorted.Unsorted.put.Goals as goal

pub unreachable-requires : goal.unreachable-requires
unreachable-requires c =
    let i = c.self.inside in
    let room = some_room i.records.items c.args.slot (rw (← c.self.view_is) at c.requires.below) (rw (← c.self.view_is) at c.requires.free) in
    omega (arith, room, c.self.invariant.counted, c.self.invariant.has_room, c.in_default.ensures.full)
