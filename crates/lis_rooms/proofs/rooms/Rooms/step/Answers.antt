use Rattle.std.proofs.lemmas.Result.{err_from_is_err_and}
use Rattle.lis_line.specs.Reading.{asked_by}
use Rattle.lis_store.specs.Stored.{StoreFits}
use Rattle.lis_rooms.proofs.Carried.{stops_untagged, carries_tagged}
use Rattle.lis_rooms.proofs.rooms.Rooms.step.Goals as goal

pub returns-in_err-carry_in-clause-carries : goal.returns-in_err-carry_in-clause-carries
returns-in_err-carry_in-clause-carries g c =
    let old = g.T.Disk.meaning c.args.station.now in
    let new = g.T.Disk.meaning c.carry_in.new.station in
    let p = err_from_is_err_and c.from_residual.result c.from_residual.ensures.1 in
    rw (p.1, p.2)
    (stops_untagged (StoreFits c.args.self.now.store old) old c.args.self.now.place c.carry_in.new.self.place c.args.tagged.now.room (StoreFits c.carry_in.new.self.store new) new
    c.in_err-carry_in.field-0.0 (asked_by c.args.tagged.now.item c.args.payload.now) c.in_err-carry_in.ensures.carries)

pub returns-clause-carries : goal.returns-clause-carries
returns-clause-carries g c =
    let old = g.T.Disk.meaning c.args.station.now in
    carries_tagged (StoreFits c.args.self.now.store old) old c.args.self.now.place c.carry_in.new.self.place c.args.tagged.now.room c.carry_in.new.self.store
    (g.T.Disk.meaning c.carry_in.new.station) (g.T.Disk.meaning c.answer_tag.new.station) c.answer_tag.result (asked_by c.args.tagged.now.item c.args.payload.now)
    c.in_ok-carry_in.ensures.carries c.answer_tag.ensures
