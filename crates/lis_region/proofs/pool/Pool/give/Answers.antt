use Rattle.std.proofs.Common.{◌++◌, ◌∷◌, [], false, ap, set, length-append, length-set, arith}
use Rattle.lis_region.proofs.Pools.{is_taken, sound_given, room_to_give, free_are}
use Rattle.lis_region.proofs.Made.{frames_freed}
use Rattle.lis_region.proofs.Given.{taken_in_range}
use Rattle.lis_region.proofs.pool.Pool.give.Goals as goal

pub index_mut-requires : goal.index_mut-requires
index_mut-requires g c =
    let s = c.self.inside in
    let has = rw (← c.self.view_is, ← c.frame.view_is) at c.requires in
    let lt = taken_in_range s.taken.items c.frame.inside.number (is_taken s.width s.frames s.items.items s.taken.items s.given.items c.frame.inside.number has) in
    omega (arith, lt, s.taken.ok.0)

pub unreachable-requires : goal.unreachable-requires
unreachable-requires g c =
    let s = c.self.inside in
    let has = rw (← c.self.view_is, ← c.frame.view_is) at c.requires in
    let was = is_taken s.width s.frames s.items.items s.taken.items s.given.items c.frame.inside.number has in
    let room = room_to_give s.width s.frames s.items.items s.taken.items s.given.items c.frame.inside.number was c.self.invariant.0 in
    let fits = c.self.invariant.1.given_fit in
    omega (arith, room, fits, s.given.ok.0, c.in_default.ensures)

pub invariant_of-self : goal.invariant_of-self
invariant_of-self g c =
    let s = c.self.inside in
    let has = rw (← c.self.view_is, ← c.frame.view_is) at c.requires in
    let was = is_taken s.width s.frames s.items.items s.taken.items s.given.items c.frame.inside.number has in
    let room = c.self.invariant.1 in (
      rw c.in-Ok.ensures.items (sound_given s.width s.frames s.items.items s.taken.items s.given.items c.frame.inside.number was c.self.invariant.0),
      record { items_fit = room.items_fit; taken_fit = room.taken_fit; given_fit = omega (arith, room.given_fit, c.push.ensures.capacity) },
    )

pub returns-clause-given : goal.returns-clause-given
returns-clause-given g c =
    let s = c.self.inside in
    let has = rw (← c.self.view_is, ← c.frame.view_is) at c.requires in
    let lt = taken_in_range s.taken.items c.frame.inside.number (is_taken s.width s.frames s.items.items s.taken.items s.given.items c.frame.inside.number has) in
    rw (← c.self.view_is, ← c.frame.view_is) (ap (λ fs. record { width = s.width; fill = s.fill; frames = fs }) (frames_freed s.width s.frames s.taken.items s.items.items c.frame.inside.number lt))

pub returns-clause-more : goal.returns-clause-more
returns-clause-more g c =
    let s = c.self.inside in
    let has = rw (← c.self.view_is, ← c.frame.view_is) at c.requires in
    let was = is_taken s.width s.frames s.items.items s.taken.items s.given.items c.frame.inside.number has in
    let old = free_are s.width s.frames s.items.items s.taken.items s.given.items c.self.invariant.0 in
    let new = free_are s.width s.frames s.items.items (set s.taken.items c.frame.inside.number false) (s.given.items ++ c.frame.inside.number ∷ []) (sound_given s.width s.frames s.items.items s.taken.items s.given.items c.frame.inside.number was c.self.invariant.0) in
    rw (← c.self.view_is) (omega (arith, old, new, length-append s.given.items (c.frame.inside.number ∷ []), length-set s.taken.items c.frame.inside.number false))
