use Rattle.std.proofs.Common.{Ok, Err, subst}
use Rattle.lis_fields.specs.Records.{FileRecord}
use Rattle.lis_catalog.specs.Inside.{FoundAt, PlaceFor}
use Rattle.lis_catalog.proofs.Held.{place_told}
use Rattle.lis_catalog.proofs.catalog.Catalog.place_of.Goals as goal

pub unreachable-requires : goal.unreachable-requires
unreachable-requires c =
    let seen = c.args.self.now in
    let place = subst (λ (r : FileRecord). PlaceFor r.name c.in_default.field-0 seen.entries) c.rec-2.view_is c.in_default.ensures.place in
    place_told seen c.args.slot c.in_ok-rec.rec.now (Err c.in_default.field-0) c.in_default.ensures.kept c.in_ok-rec.ensures c.in_default.ensures.bound place

pub returns-clause-place : goal.returns-clause-place
returns-clause-place c =
    let seen = c.args.self.now in
    let place = subst (λ (r : FileRecord). FoundAt r.name c.in-Ok.place seen.entries) c.rec-2.view_is c.in-Ok.ensures.place in
    place_told seen c.args.slot c.in_ok-rec.rec.now (Ok c.in-Ok.place) c.in-Ok.ensures.kept c.in_ok-rec.ensures c.in-Ok.ensures.bound place
