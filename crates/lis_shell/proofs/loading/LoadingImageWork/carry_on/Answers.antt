use Rattle.std.proofs.Common.{◌∙◌, List, sym, subst}
use Rattle.lis_grammar.specs.Formula.{Formula}
use Rattle.lis_model.specs.Script.{script}
use Rattle.lis_store.specs.Stored.{IsSound, StoreFits}
use Rattle.lis_session.specs.Session.{SituatedOf}
use Rattle.lis_session.specs.Served.{situation_at}
use Rattle.lis_load.specs.Load.{Loads, LoadServed}
use Rattle.lis_shell.proofs.Opened.{session_cause}
use Rattle.lis_shell.proofs.loading.LoadingImageWork.carry_on.Goals as goal

pub returns-clause-cause : goal.returns-clause-cause
returns-clause-cause g c =
    session_cause (g.T.Disk.meaning c.args.station.now) (g.T.Disk.meaning c.serve_load-halt.new.station) (g.S.Source.faults c.args.input.now) (g.S.Source.faults c.serve_load-halt.new.input)
    c.serve_load-halt.result c.serve_load-halt.ensures.keeps.ends.cause c.serve_load-halt.ensures.input_cause

pub serve_load-halt-requires-clause-sound : goal.serve_load-halt-requires-clause-sound
serve_load-halt-requires-clause-sound g c =
    subst (λ (s : SituatedOf (List Formula)). IsSound s.store) (sym (c.new-loader.ensures.session ∙ c.in_ok-session.ensures)) c.requires.sound

pub returns-clause-goes : goal.returns-clause-goes
returns-clause-goes g c = λ state bytes fits told.
    let old = g.T.Disk.meaning c.args.station.now in
    let new = g.T.Disk.meaning c.serve_load-halt.new.station in
    subst (λ (s : SituatedOf (List Formula)). StoreFits s.store old state → Loads (situation_at s state) (script bytes 1099511627776) old new
    (LoadServed (situation_at s state) 1099511627776 bytes (g.S.Source.left c.serve_load-halt.new.input) old.shown new c.serve_load-halt.result))
    (c.new-loader.ensures.session ∙ c.in_ok-session.ensures) (λ own. c.serve_load-halt.ensures.serves state bytes own told) fits

pub returns-clause-disk : goal.returns-clause-disk
returns-clause-disk g c = λ is. absurd (cc)

pub returns-clause-undone : goal.returns-clause-undone
returns-clause-undone g c = λ is. absurd (cc)
