use Rattle.std.proofs.Common.{inr}
use Rattle.lis_ports.proofs.Moments.{adds_weaken}
use Rattle.lis_model.specs.Script.{script}
use Rattle.lis_session.specs.Served.{situation_at}
use Rattle.lis_session.proofs.Fitting.{store_fits_at}
use Rattle.lis_session.proofs.Whole.{no_exception}
use Rattle.lis_load.specs.Load.{LoadMoment}
use Rattle.lis_load.proofs.Moments.{load_none}
use Rattle.lis_load.proofs.Served.{loaded_none, load_keeps, load_input, loads_so}
use Rattle.lis_load.proofs.serving.serve_load.Goals as goal

pub carry_held-requires-clause-ready : goal.carry_held-requires-clause-ready
carry_held-requires-clause-ready g c = c.requires.usable

pub carry_held-requires-clause-start : goal.carry_held-requires-clause-start
carry_held-requires-clause-start g c = loaded_none c.args.loader.now (g.T.Disk.meaning c.args.station.now) c.requires.idle c.requires.usable.unbroken c.requires.sound

pub returns : goal.returns
returns g c =
    let limit = c.args.limit in
    let before = g.S.Source.left c.args.input.now in
    let left = g.S.Source.left c.carry_held.new.input in
    let start = c.args.loader.now in
    let now = c.carry_held.new.carrier in
    let entry = g.T.Disk.meaning c.args.station.now in
    let m = g.T.Disk.meaning c.carry_held.new.station in
    let halt = c.carry_held.result in
    let ended = c.carry_held.ensures.ended in
    record {
      keeps = load_keeps limit before left start now entry m halt ended;
      input_cause = c.carry_held.ensures.cause;
      input_first_fault = c.carry_held.ensures.first_fault;
      few = c.carry_held.ensures.few;
      input = λ bytes told. load_input limit before left start now entry m bytes told halt ended;
      serves = λ state bytes fits told. loads_so limit before left start now entry m bytes told state (store_fits_at c.requires.sound fits) halt ended;
      headline = λ state bytes fits told.
          let fitting = store_fits_at c.requires.sound fits in
          let from = situation_at start.session state in
          let loads = loads_so limit before left start now entry m bytes told state fitting halt ended in
          no_exception (LoadMoment from (script bytes limit)) (λ image is. load_none from (script bytes limit) image (fitting.stands.leaves image is)) (g.met.T.Disk.only_now c.args.station.now)
          (adds_weaken _ loads.moments (λ image shown since. inr since));
    }
