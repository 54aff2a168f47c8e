use Rattle.std.proofs.Common.{subst}
use Rattle.lis_model.specs.Step.{step}
use Rattle.lis_model.specs.Script.{script, session_cut}
use Rattle.lis_store.specs.Stored.{StoreFits}
use Rattle.lis_session.specs.Session.{Situated}
use Rattle.lis_session.specs.Runs.{Serves}
use Rattle.lis_session.specs.Ending.{Served}
use Rattle.lis_shell.proofs.serving.RunningImageWork.carry_on.Goals as goal

pub returns-clause-goes : goal.returns-clause-goes
returns-clause-goes g c = λ state bytes fits told.
    let old = g.T.Disk.meaning c.args.station.now in
    let new = g.T.Disk.meaning c.serve-halt.new.station in
    subst (λ (s : Situated). StoreFits s.store old state → Serves step (record { state = state; place = s.place }) (script bytes 1099511627776) old new
    (Served step session_cut (record { state = state; place = s.place }) 1099511627776 bytes (g.S.Source.left c.serve-halt.new.input) old.shown new c.serve-halt.result))
    c.in_ok-session.ensures (λ own. c.serve-halt.ensures.serves state bytes own told) fits

pub returns-clause-disk : goal.returns-clause-disk
returns-clause-disk g c = λ is. absurd (cc)

pub returns-clause-undone : goal.returns-clause-undone
returns-clause-undone g c = λ is. absurd (cc)
