use Rattle.std.proofs.Common.{subst, ap, arith}
use Rattle.lis_fields.specs.Records.{FileRecord}
use Rattle.lis_catalog.specs.Inside.{FoundAt}
use Rattle.lis_catalog.proofs.Taken.{taken_put}
use Rattle.lis_catalog.proofs.Held.{none_there, fits_from, room_left, put_held, put_same}
use Rattle.lis_catalog.proofs.catalog.Catalog.place.Goals as goal

pub unreachable-requires : goal.unreachable-requires
unreachable-requires c =
    let seen = c.args.self.now in
    let k = c.in_default.field-0 in
    let place = subst (λ (r : FileRecord). FoundAt r.name k seen.entries) c.rec.view_is c.in_default.ensures.place in
    none_there seen c.args.rec.name k c.in_default.ensures.bound place c.requires.new

pub unreachable-requires-in_default-insert : goal.unreachable-requires-in_default-insert
unreachable-requires-in_default-insert c =
    let i = c.self.inside in
    let fits = fits_from c.args.self.now i.files i.records.items i.order.items c.args.slot c.args.rec c.rec.inside.name c.in-Err.place c.self.view_is (ap (λ (r : FileRecord). r.name) c.rec.view_is)
    c.in-Err.ensures.place c.in-Err.ensures.bound c.in-Err.ensures.name c.requires.below c.requires.free in
    omega (arith, room_left i.files _ i.records.items i.order.items c.self.invariant.held c.args.slot c.in-Err.place c.args.rec fits, c.self.invariant.held.has_room, c.in_default-insert.ensures.full)

pub invariant_of-self : goal.invariant_of-self
invariant_of-self c =
    let i = c.self.inside in
    let fits = fits_from c.args.self.now i.files i.records.items i.order.items c.args.slot c.args.rec c.rec.inside.name c.in-Err.place c.self.view_is (ap (λ (r : FileRecord). r.name) c.rec.view_is)
    c.in-Err.ensures.place c.in-Err.ensures.bound c.in-Err.ensures.name c.requires.below c.requires.free in
    rw (c.in-Ok.ensures.items) (record {
      held = put_held i.files _ i.records.items i.order.items c.self.invariant.held c.args.slot c.in-Err.place c.args.rec fits _ (omega (arith, c.insert.ensures.capacity, c.self.invariant.held.has_room));
      taken = taken_put i.records.items i.free_from c.args.slot c.args.rec c.self.invariant.taken (omega (arith, fits.below, c.self.invariant.held.long));
    })

pub returns : goal.returns
returns c =
    let i = c.self.inside in
    let fits = fits_from c.args.self.now i.files i.records.items i.order.items c.args.slot c.args.rec c.rec.inside.name c.in-Err.place c.self.view_is (ap (λ (r : FileRecord). r.name) c.rec.view_is)
    c.in-Err.ensures.place c.in-Err.ensures.bound c.in-Err.ensures.name c.requires.below c.requires.free in
    rw (c.in-Ok.ensures.items, ← c.self.view_is)
    (put_same i.files _ i.records.items i.order.items c.self.invariant.held c.args.slot c.in-Err.place c.args.rec fits)
