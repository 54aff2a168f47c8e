use Rattle.std.proofs.Common.{◌<◌, ◌∙◌, length, sym, arith}
use Rattle.lis_taxonomy.proofs.Marks.{some_room}
use Rattle.lis_taxonomy.proofs.search.Search.meet.Goals as goal

pub unreachable-requires : goal.unreachable-requires
unreachable-requires c =
    let m = c.self.inside in
    let below : c.args.number < length m.marks = omega (arith, c.requires, c.self.invariant.size) in
    let room = some_room m.numbers.items m.marks _ c.self.invariant c.args.number below (sym c.get.ensures ∙ c.if-get.false) in
    omega (arith, room, c.self.invariant.memory, c.in_default.ensures.full)
