use Rattle.std.proofs.Common.{refl, ◌∙◌}
use Rattle.lis_model.specs.Step.{Situation, stat}
use Rattle.lis_store.proofs.ToldBy.{told_fits}
use Rattle.lis_store.proofs.Counted.{counts_state}
use Rattle.lis_session.proofs.Saying.{shows_item}
use Rattle.lis_session.proofs.Counted.{counts_shown}
use Rattle.lis_session.proofs.counting.stat.Goals as goal

pub returns-clause-carries : goal.returns-clause-carries
returns-clause-carries g c = λ place state fitting.
    let now : Situation = record { state = state; place = place } in
    let told = counts_state c.args.store.now state c.requires (told_fits c.args.store.now (g.T.Disk.meaning c.args.station.now) state c.requires fitting.own) in
    let counts = c.counts.ensures in
    let is = counts_shown state c.counts.result (counts.files ∙ told.files) (counts.known ∙ told.known) (counts.axioms ∙ told.axioms) (counts.free ∙ told.free) in
    shows_item (stat now) place fitting (rw is at c.answer_counts.ensures) refl
