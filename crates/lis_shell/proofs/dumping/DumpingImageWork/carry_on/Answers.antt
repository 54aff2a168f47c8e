use Rattle.std.proofs.Common.{sym, subst}
use Rattle.lis_replay.specs.Dump.{dump_of}
use Rattle.lis_session.specs.Item.{InItem}
use Rattle.lis_session.specs.Parts.{only_shows}
use Rattle.lis_session.specs.Runs.{Goes}
use Rattle.lis_session.specs.Session.{root_of}
use Rattle.lis_session.proofs.Fitting.{store_fits_at}
use Rattle.lis_shell.specs.Image.{ByResult}
use Rattle.lis_shell.specs.Steps.{StepEnded}
use Rattle.lis_shell.proofs.Steps.{step_goes}
use Rattle.lis_shell.proofs.dumping.DumpingImageWork.carry_on.Goals as goal

pub returns-clause-goes : goal.returns-clause-goes
returns-clause-goes g c = λ state bytes fits told.
    let old = g.T.Disk.meaning c.args.station.now in
    let new = g.T.Disk.meaning c.dump_state-done.new.station in
    let outcome = only_shows (dump_of state) (root_of state) in
    let made = c.dump_state-done.ensures.shows state (store_fits_at c.requires.sound fits) in
    subst (λ halt. Goes (InItem state outcome) state.limits old new (ByResult (StepEnded outcome old.shown new) halt)) (sym c.halted.ensures) (step_goes state outcome c.dump_state-done.result made)

pub returns-clause-disk : goal.returns-clause-disk
returns-clause-disk g c = λ is. c.dump_state-done.ensures.disk

pub returns-clause-undone : goal.returns-clause-undone
returns-clause-undone g c = λ is. absurd (cc)
