use Rattle.std.proofs.Common.{refl}
use Rattle.std.proofs.lemmas.Result.{err_from_is_err_and}
use Rattle.lis_line.specs.Reading.{asked_by}
use Rattle.lis_session.proofs.Going.{is_usable_after}
use Rattle.lis_load.proofs.Settling.{matches, stopped_before}
use Rattle.lis_load.proofs.Stepping.{stepped}
use Rattle.lis_load.proofs.loader.LoaderHolder.carry.Goals as goal

-- ---- a change
pub returns-in_err-make_room-in-Command-clause-carried : goal.returns-in_err-make_room-in-Command-clause-carried
returns-in_err-make_room-in-Command-clause-carried g c = λ start entry first loaded.
    let p = err_from_is_err_and c.from_residual.result c.from_residual.ensures.1 in
    rw (p.1, p.2) (stopped_before (asked_by c.args.item.now c.args.payload.now) (c.in_err-make_room-in-Command.ensures.done start entry first loaded))

pub returns-in_ok-make_room-in-Command-clause-carried : goal.returns-in_ok-make_room-in-Command-clause-carried
returns-in_ok-make_room-in-Command-clause-carried g c = λ start entry first loaded.
    rw c.in-Command.is (matches c.hold.result (c.hold.ensures.held start entry first (c.in_ok-make_room-in-Command.ensures.done start entry first loaded)))

-- ---- any other item
pub returns-in_err-settle-in_default-clause-carried : goal.returns-in_err-settle-in_default-clause-carried
returns-in_err-settle-in_default-clause-carried g c = λ start entry first loaded.
    let p = err_from_is_err_and c.from_residual-in_err-settle-in_default.result c.from_residual-in_err-settle-in_default.ensures.1 in
    rw (p.1, p.2) (stopped_before (asked_by c.args.item.now c.args.payload.now) (c.in_err-settle-in_default.ensures.done start entry first loaded))

pub step-requires-clause-usable : goal.step-requires-clause-usable
step-requires-clause-usable g c = c.in_ok-settle-in_default.ensures.ready 0 c.requires.ready.1

pub returns-in_ok-settle-in_default-clause-ready : goal.returns-in_ok-settle-in_default-clause-ready
returns-in_ok-settle-in_default-clause-ready g c = λ more ready. is_usable_after c.step.result c.step.ensures.keeps (c.in_ok-settle-in_default.ensures.ready more ready)

pub returns-in_ok-settle-in_default-clause-carried : goal.returns-in_ok-settle-in_default-clause-carried
returns-in_ok-settle-in_default-clause-carried g c = λ start entry first loaded.
    stepped _ _ (c.in_ok-settle-in_default.ensures.done start entry first loaded) c.in_ok-settle-in_default.ensures.settled refl (asked_by c.args.item.now c.args.payload.now) c.step.result c.step.ensures.keeps c.step.ensures.carries
