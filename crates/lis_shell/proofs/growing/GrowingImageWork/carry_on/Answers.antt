use Rattle.std.proofs.Common.{sym, subst}
use Rattle.lis_store.specs.Stored.{StoreFits}
use Rattle.lis_session.specs.Session.{Situated, root_of}
use Rattle.lis_grow.specs.Session.{grow_items, GrowEnded, Grows}
use Rattle.lis_shell.specs.declared.status.Status.TheVariants.{Ended}
use Rattle.lis_shell.specs.Causes.{counts, HasStatusCause}
use Rattle.lis_shell.specs.Image.{ByResult, IsUnread}
use Rattle.lis_shell.proofs.Opened.{halted_cause, by_halted}
use Rattle.lis_shell.proofs.growing.GrowingImageWork.carry_on.Goals as goal

pub returns-clause-goes : goal.returns-clause-goes
returns-clause-goes g c = λ state bytes fits told.
    let old = g.T.Disk.meaning c.args.station.now in
    let new = g.T.Disk.meaning c.grow_session-done.new.station in
    let items = grow_items c.args.self.now.0 in
    let grew = subst (λ (s : Situated). StoreFits s.store old state → Grows (record { state = state; place = s.place }) items old new
    (GrowEnded (record { state = state; place = s.place }) items old.shown new c.grow_session-done.result)) c.in_ok-session.ensures (c.grow_session-done.ensures.grows state) fits in
    let done = GrowEnded (root_of state) items old.shown new in
    record { moments = grew.moments; past = grew.past; ended = subst (ByResult done) (sym c.halted.ensures) (by_halted done c.grow_session-done.result grew.ended) }

pub returns-clause-cause : goal.returns-clause-cause
returns-clause-cause g c =
    let old = g.T.Disk.meaning c.args.station.now in
    let new = g.T.Disk.meaning c.grow_session-done.new.station in
    let faults = g.S.Source.faults c.args._input.now in
    subst (λ halt. HasStatusCause (counts old faults) (counts new faults) (Ended halt)) (sym c.halted.ensures) (halted_cause old new faults c.grow_session-done.result c.grow_session-done.ensures.cause)

pub returns-clause-disk : goal.returns-clause-disk
returns-clause-disk g c = λ is. absurd (cc)

pub returns-clause-undone : goal.returns-clause-undone
returns-clause-undone g c = λ is. absurd (cc)

pub returns-clause-only : goal.returns-clause-only
returns-clause-only g c = subst IsUnread (sym c.halted.ensures) (by_halted (λ result. Unit {0}) c.grow_session-done.result tt)
