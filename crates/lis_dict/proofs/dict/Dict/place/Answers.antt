use Rattle.std.proofs.Common.{arith}
use Rattle.lis_dict.proofs.Laws.{not_found}
use Rattle.lis_dict.proofs.Taken.{taken_put}
use Rattle.lis_dict.proofs.Holders.{room_left, put_sound, put_same}
use Rattle.lis_dict.proofs.dict.Dict.place.Goals as goal

pub unreachable-requires : goal.unreachable-requires
unreachable-requires c = not_found c.args.self.now c.args.word.now c.in_default.field-0 c.in_default.ensures.bound c.in_default.ensures.found c.requires.new

pub unreachable-requires-in_default-insert : goal.unreachable-requires-in_default-insert
unreachable-requires-in_default-insert c =
    let i = c.self.inside in
    let room = room_left i.props _ i.holders.items i.order.items c.self.invariant.sound c.args.word.now c.args.number c.in-Err.place (rw (← c.self.view_is) at c.requires.below) (rw (← c.self.view_is) at c.requires.free) (rw (← c.self.view_is) at c.in-Err.ensures.bound) (rw (← c.self.view_is) at c.in-Err.ensures.absent) in
    omega (arith, room, c.self.invariant.sound.has_room, c.in_default-insert.ensures.full)

pub invariant_of-self : goal.invariant_of-self
invariant_of-self c =
    let i = c.self.inside in
    rw (c.in-Ok.ensures.items, c.copied.ensures) (record {
      sound = put_sound i.props _ i.holders.items i.order.items c.self.invariant.sound c.args.word.now c.args.number c.in-Err.place (rw (← c.self.view_is) at c.requires.below) (rw (← c.self.view_is) at c.requires.free) (rw (← c.self.view_is) at c.in-Err.ensures.bound) (rw (← c.self.view_is) at c.in-Err.ensures.absent)
          c.search.ensures.word _ (omega (arith, c.insert.ensures.capacity, c.self.invariant.sound.has_room));
      taken = taken_put i.holders.items i.free_from c.args.number c.args.word.now c.self.invariant.taken
          (omega (arith, rw (← c.self.view_is) at c.requires.below, c.self.invariant.sound.table));
    })

pub returns : goal.returns
returns c =
    let i = c.self.inside in
    rw (c.in-Ok.ensures.items, c.copied.ensures, ← c.self.view_is)
    (put_same i.props _ i.holders.items i.order.items c.self.invariant.sound c.args.word.now c.args.number c.in-Err.place (rw (← c.self.view_is) at c.requires.below) (rw (← c.self.view_is) at c.requires.free) (rw (← c.self.view_is) at c.in-Err.ensures.bound) (rw (← c.self.view_is) at c.in-Err.ensures.absent))
