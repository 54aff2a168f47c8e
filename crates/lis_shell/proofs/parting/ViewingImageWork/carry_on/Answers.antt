use Rattle.std.proofs.Common.{sym, subst}
use Rattle.lis_store.specs.Stored.{Stored, IsSound, StoreFits}
use Rattle.lis_parts.specs.Commands.{view}
use Rattle.lis_session.specs.Item.{InItem}
use Rattle.lis_session.specs.Runs.{Goes}
use Rattle.lis_session.specs.Session.{root_of}
use Rattle.lis_session.proofs.Fitting.{store_fits_at}
use Rattle.lis_shell.specs.declared.status.Status.TheVariants.{Ended}
use Rattle.lis_shell.specs.Causes.{counts, HasStatusCause}
use Rattle.lis_shell.specs.Image.{ByResult, IsUnread}
use Rattle.lis_shell.specs.Steps.{StepEnded}
use Rattle.lis_shell.proofs.Opened.{halted_cause, by_halted}
use Rattle.lis_shell.proofs.Steps.{step_goes}
use Rattle.lis_shell.proofs.parting.ViewingImageWork.carry_on.Goals as goal

pub returns-clause-cause : goal.returns-clause-cause
returns-clause-cause g c =
    let old = g.T.Disk.meaning c.args.station.now in
    let new = g.T.Disk.meaning c.view_file-done.new.station in
    let faults = g.S.Source.faults c.args._input.now in
    subst (λ halt. HasStatusCause (counts old faults) (counts new faults) (Ended halt)) (sym c.halted.ensures) (halted_cause old new faults c.view_file-done.result c.view_file-done.ensures.ends.cause)

pub returns-clause-only : goal.returns-clause-only
returns-clause-only g c = subst IsUnread (sym c.halted.ensures) (by_halted (λ result. Unit {0}) c.view_file-done.result tt)

pub returns-clause-goes : goal.returns-clause-goes
returns-clause-goes g c = λ state bytes fits told.
    let old = g.T.Disk.meaning c.args.station.now in
    let new = g.T.Disk.meaning c.view_file-done.new.station in
    let outcome = view (root_of state) c.args.self.now.0.name c.args.self.now.0.text.now in
    let same = sym c.in_ok-store.ensures.0 in
    let own = subst (λ (s : Stored). StoreFits s old state) same fits in
    let made = c.view_file-done.ensures.shows state (store_fits_at (subst IsSound same c.requires.sound) own) in
    subst (λ halt. Goes (InItem state outcome) state.limits old new (ByResult (StepEnded outcome old.shown new) halt)) (sym c.halted.ensures) (step_goes state outcome c.view_file-done.result made)

pub returns-clause-disk : goal.returns-clause-disk
returns-clause-disk g c = λ is. c.view_file-done.ensures.disk

pub returns-clause-undone : goal.returns-clause-undone
returns-clause-undone g c = λ is. absurd (cc)
