use Rattle.std.proofs.Common.{◌≡◌, ◌<◌, [], ap, length, arith}
use Rattle.std.proofs.lemmas.List.{get_or_read}
use Rattle.lis_line.specs.Reading.{asked_by}
use Rattle.lis_rooms.specs.Rooms.{Places}
use Rattle.lis_store.specs.Stored.{StoreFits}
use Rattle.lis_session.specs.Session.{SituatedOf}
use Rattle.lis_rooms.proofs.Carried.{carries_in, refuses}
use Rattle.lis_rooms.proofs.rooms.Rooms.carry_in.Goals as goal

pub returns-in-Some-default-clause-carries : goal.returns-in-Some-default-clause-carries
returns-in-Some-default-clause-carries g c =
    let store : c.self.inside.store ≡ c.args.self.now.store = ap (λ (s : SituatedOf Places). s.store) c.self.view_is in
    let places : c.self.inside.places.items ≡ c.args.self.now.place = ap (λ (s : SituatedOf Places). s.place) c.self.view_is in
    let held = c.self.inside.places.items in
    let room = c.in-Some-default.room in
    let below : room < 8 = (rw c.in-Some-default.is-0 at c.requires.said).0 in
    let there : c.from.result < length held = omega (arith, c.from.ensures, c.self.invariant.eight) in
    let place = get_or_read held _ _ there c.index_mut.ensures.value [] in
    let old = g.T.Disk.meaning c.args.station.now in
    let new = g.T.Disk.meaning c.carry_out.new.station in
    rw (c.in-Some-default.is-0, ← store, ← places, c.from.ensures)
    (carries_in (StoreFits c.self.inside.store old) (StoreFits c.carry_out.new.store new) old new c.carry_out.result c.carry_out.new.place held room
    (asked_by c.args.tagged.now.item c.args.payload.now) (rw (place, c.from.ensures) at c.carry_out.ensures.carries))

pub returns-in-None-Bad-clause-carries : goal.returns-in-None-Bad-clause-carries
returns-in-None-Bad-clause-carries g c =
    rw (c.in-None-Bad.is-0, c.in-None-Bad.is-1) (refuses c.args.self.now.place c.in-None-Bad.refusal c.answer_refusal.ensures)
