use Rattle.lis_model.specs.Step.{step}
use Rattle.lis_model.specs.Script.{script, session_cut}
use Rattle.lis_session.specs.Served.{situation_at}
use Rattle.lis_session.proofs.Fitting.{store_fits_at}
use Rattle.lis_session.proofs.Going.{has_done_none}
use Rattle.lis_session.proofs.Whole.{full_headline}
use Rattle.lis_session.proofs.Ending.{served_keeps, served_input, serves_so, goes_on_so}
use Rattle.lis_shell.proofs.Opened.{session_cause}
use Rattle.lis_shell.proofs.serving.serve.Goals as goal

pub carry_all-requires-clause-ready : goal.carry_all-requires-clause-ready
carry_all-requires-clause-ready g c = c.requires.usable

pub carry_all-requires-clause-start : goal.carry_all-requires-clause-start
carry_all-requires-clause-start g c = has_done_none step c.args.session.now (g.T.Disk.meaning c.args.station.now) c.requires.usable.unbroken c.requires.sound

pub returns : goal.returns
returns g c =
    let limit = c.args.limit in
    let before = g.S.Source.left c.args.input.now in
    let left = g.S.Source.left c.carry_all.new.input in
    let start = c.args.session.now in
    let now = c.carry_all.new.carrier in
    let entry = g.T.Disk.meaning c.args.station.now in
    let m = g.T.Disk.meaning c.carry_all.new.station in
    let ended = c.carry_all.ensures.ended in
    let keeps = served_keeps step session_cut limit before left start now entry m c.carry_all.result ended in
    record {
      keeps = keeps;
      cause = session_cause entry m (g.S.Source.faults c.args.input.now) (g.S.Source.faults c.carry_all.new.input) c.carry_all.result keeps.ends.cause c.carry_all.ensures.cause;
      input_first_fault = c.carry_all.ensures.first_fault;
      few = c.carry_all.ensures.few;
      input = λ bytes told. served_input step session_cut limit before left start now entry m bytes told c.carry_all.result ended;
      serves = λ state bytes fits told. serves_so step session_cut limit before left start now entry m bytes told state (store_fits_at c.requires.sound fits) c.carry_all.result ended;
      goes_on = λ state bytes fits told. goes_on_so step session_cut limit before left start now entry m bytes told state (store_fits_at c.requires.sound fits) c.carry_all.result ended;
      headline = λ state bytes fits told.
          let fitting = store_fits_at c.requires.sound fits in
          full_headline step (situation_at start state) (script bytes limit) fitting.stands (g.met.T.Disk.only_now c.args.station.now)
          (serves_so step session_cut limit before left start now entry m bytes told state fitting c.carry_all.result ended).moments;
    }
