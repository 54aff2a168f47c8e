use Rattle.std.proofs.Common.{◌∙◌, sym, subst}
use Rattle.lis_model.specs.Step.{Situation, situation_after}
use Rattle.lis_store.specs.Stored.{IsSound, StoreFits}
use Rattle.lis_store.proofs.ToldBy.{told_fits}
use Rattle.lis_store.proofs.Counted.{counts_state}
use Rattle.lis_grow.specs.Session.{grow_items}
use Rattle.lis_grow.proofs.Growing.{summary_is, grows_broke, grows_shown}
use Rattle.lis_grow.proofs.session.grow_session.Goals as goal

pub returns-in_default-clause-grows : goal.returns-in_default-clause-grows
returns-in_default-clause-grows g c = λ state fits.
    let start : Situation = record { state = state; place = c.args.session.now.place } in
    grows_broke start (grow_items c.args.n) c.in_default.field-0 (c.in_default.ensures.carries state fits)

pub returns-clause-grows : goal.returns-clause-grows
returns-clause-grows g c = λ state fits.
    let start : Situation = record { state = state; place = c.args.session.now.place } in
    let items = grow_items c.args.n in
    let summed = c.in-Ok.ensures.carries state fits in
    let own = subst (λ store. StoreFits store (g.T.Disk.meaning c.carry_out.new.station) (situation_after start items).state) (sym c.store.ensures.value) summed.ended.fitting.own in
    let sound = subst IsSound (sym c.store.ensures.value) c.store.ensures.sound in
    let reached = (situation_after start items).state in
    let told = counts_state c.store.result.now reached sound (told_fits c.store.result.now (g.T.Disk.meaning c.carry_out.new.station) reached sound own) in
    grows_shown start items c.in-Ok.sum summed (g.T.Disk.meaning c.show_summary.new.station) c.show_summary.result _
    (summary_is start items c.in-Ok.sum c.counts.result summed.ended.replies summed.ended.refused summed.ended.listed (c.counts.ensures.files ∙ told.files) (c.counts.ensures.axioms ∙ told.axioms)
    (c.counts.ensures.free ∙ told.free)) c.show_summary.ensures
