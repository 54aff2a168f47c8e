use Rattle.lis_line.specs.Tagged.{tagged_cut, room_script}
use Rattle.lis_session.specs.Served.{situation_at}
use Rattle.lis_session.proofs.Fitting.{store_fits_at}
use Rattle.lis_session.proofs.Going.{has_done_none}
use Rattle.lis_session.proofs.Ending.{served_keeps, served_input, serves_so, goes_on_so}
use Rattle.lis_session.proofs.Whole.{full_headline}
use Rattle.lis_rooms.specs.Rooms.{room_step}
use Rattle.lis_rooms.proofs.serving.serve_rooms.Goals as goal

pub carry_all-requires-clause-ready : goal.carry_all-requires-clause-ready
carry_all-requires-clause-ready g c = c.requires.usable

pub carry_all-requires-clause-start : goal.carry_all-requires-clause-start
carry_all-requires-clause-start g c = has_done_none room_step c.args.rooms.now (g.T.Disk.meaning c.args.station.now) c.requires.usable.unbroken c.requires.sound

pub returns : goal.returns
returns g c =
    let limit = c.args.limit in
    let before = g.S.Source.left c.args.input.now in
    let left = g.S.Source.left c.carry_all.new.input in
    let start = c.args.rooms.now in
    let now = c.carry_all.new.carrier in
    let entry = g.T.Disk.meaning c.args.station.now in
    let m = g.T.Disk.meaning c.carry_all.new.station in
    let halt = c.carry_all.result in
    let ended = c.carry_all.ensures.ended in
    record {
      keeps = served_keeps room_step tagged_cut limit before left start now entry m halt ended;
      input_cause = c.carry_all.ensures.cause;
      input_first_fault = c.carry_all.ensures.first_fault;
      few = c.carry_all.ensures.few;
      input = λ bytes told. served_input room_step tagged_cut limit before left start now entry m bytes told halt ended;
      serves = λ state bytes fits told.
          serves_so room_step tagged_cut limit before left start now entry m bytes told state (store_fits_at c.requires.sound fits) halt ended;
      goes_on = λ state bytes fits told.
          goes_on_so room_step tagged_cut limit before left start now entry m bytes told state (store_fits_at c.requires.sound fits) halt ended;
      headline = λ state bytes fits told.
          let fitting = store_fits_at c.requires.sound fits in
          full_headline room_step (situation_at start state) (room_script bytes limit) fitting.stands (g.met.T.Disk.only_now c.args.station.now)
          (serves_so room_step tagged_cut limit before left start now entry m bytes told state fitting halt ended).moments;
    }
