use Rattle.std.proofs.Common.{subst}
use Rattle.lis_line.specs.Tagged.{tagged_cut, room_script}
use Rattle.lis_store.specs.Stored.{StoreFits}
use Rattle.lis_session.specs.Session.{SituatedOf}
use Rattle.lis_session.specs.Served.{situation_at}
use Rattle.lis_session.specs.Runs.{Serves}
use Rattle.lis_session.specs.Ending.{Served}
use Rattle.lis_rooms.specs.Rooms.{Places, room_step}
use Rattle.lis_shell.proofs.Opened.{session_cause}
use Rattle.lis_shell.proofs.rooming.RoomingImageWork.carry_on.Goals as goal

pub returns-clause-cause : goal.returns-clause-cause
returns-clause-cause g c =
    session_cause (g.T.Disk.meaning c.args.station.now) (g.T.Disk.meaning c.serve_rooms-halt.new.station) (g.S.Source.faults c.args.input.now) (g.S.Source.faults c.serve_rooms-halt.new.input)
    c.serve_rooms-halt.result c.serve_rooms-halt.ensures.keeps.ends.cause c.serve_rooms-halt.ensures.input_cause

pub returns-clause-goes : goal.returns-clause-goes
returns-clause-goes g c = λ state bytes fits told.
    let old = g.T.Disk.meaning c.args.station.now in
    let new = g.T.Disk.meaning c.serve_rooms-halt.new.station in
    subst (λ (s : SituatedOf Places). StoreFits s.store old state → Serves room_step (situation_at s state) (room_script bytes 1099511627776) old new
    (Served room_step tagged_cut (situation_at s state) 1099511627776 bytes (g.S.Source.left c.serve_rooms-halt.new.input) old.shown new c.serve_rooms-halt.result))
    c.in_ok-rooms.ensures (λ own. c.serve_rooms-halt.ensures.serves state bytes own told) fits

pub returns-clause-disk : goal.returns-clause-disk
returns-clause-disk g c = λ is. absurd (cc)

pub returns-clause-undone : goal.returns-clause-undone
returns-clause-undone g c = λ is. absurd (cc)
