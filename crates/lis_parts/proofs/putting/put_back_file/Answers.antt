use Rattle.std.proofs.Common.{[], Some, sym, subst, ◌∙◌}
use Rattle.lis_model.specs.Changes.{file_of}
use Rattle.lis_model.specs.Step.{Outcome}
use Rattle.lis_views.specs.Edits.{back_of}
use Rattle.lis_store.specs.Stored.{StoreFits}
use Rattle.lis_session.specs.Session.{root_of}
use Rattle.lis_session.specs.Item.{OneItem}
use Rattle.lis_session.proofs.Fitting.{store_fits_at}
use Rattle.lis_session.proofs.Saying.{shows_item}
use Rattle.lis_parts.specs.Commands.{put_as, put}
use Rattle.lis_parts.proofs.Puts.{slot_named, done_refused, done_nowhere, done_here, read_broke, read_then}
use Rattle.lis_parts.proofs.putting.put_back_file.Goals as goal

pub returns-in-Err-clause-puts : goal.returns-in-Err-clause-puts
returns-in-Err-clause-puts g c = λ state fitting.
    let now = root_of state in
    let name = c.args.edit.name.now in
    shows_item (put now name c.args.edit.text.now c.args.edit.edited.now) [] fitting c.answer_refusal.ensures
    (done_refused state name _ (λ place. put_as now name (back_of (file_of state.files name).bytes place c.args.edit.edited.now)) (sym c.in-Err.ensures))

pub returns-in_default-clause-puts : goal.returns-in_default-clause-puts
returns-in_default-clause-puts g c = λ state fitting.
    let now = root_of state in
    let name = c.args.edit.name.now in
    shows_item (put now name c.args.edit.text.now c.args.edit.edited.now) [] fitting c.answer_refusal-in_default.ensures
    (done_nowhere state name _ (λ place. put_as now name (back_of (file_of state.files name).bytes place c.args.edit.edited.now)) (sym c.in-Ok.ensures) c.requires.sound fitting.own (sym c.slot_of.ensures ∙ c.in_default.is))

pub make_new-requires-clause-named : goal.make_new-requires-clause-named
make_new-requires-clause-named g c = (c.args.edit.name.now, slot_named c.args.store.now c.args.edit.name.now (Some c.in-Some.slot) (sym c.in-Some.ensures))

pub returns-in_default-make_new-clause-puts : goal.returns-in_default-make_new-clause-puts
returns-in_default-make_new-clause-puts g c = λ state fitting.
    let e = c.make_new.ensures in
    read_broke (put (root_of state) c.args.edit.name.now c.args.edit.text.now c.args.edit.edited.now) fitting (e.disk.reads.moments fitting.honest) (e.disk.reads.same fitting.honest)
    (StoreFits c.args.store.now (g.T.Disk.meaning c.make_new.new.disk)) []

pub returns-clause-puts : goal.returns-clause-puts
returns-clause-puts g c = λ state fitting.
    let now = root_of state in
    let name = c.args.edit.name.now in
    let e = c.in-Ok-make_new.ensures in
    let found = sym c.in-Some.ensures in
    let here = done_here state name _ (λ place. put_as now name (back_of (file_of state.files name).bytes place c.args.edit.edited.now)) (sym c.in-Ok.ensures) c.requires.sound fitting.own c.in-Some.slot found in
    let back = back_of (file_of state.files name).bytes c.in-Ok.place c.args.edit.edited.now in
    let makes = e.makes state name fitting.own (slot_named c.args.store.now name (Some c.in-Some.slot) found) in
    let put_so = c.carry_back.ensures.puts back makes state (store_fits_at c.requires.sound (e.fits state fitting.own)) in
    read_then (put now name c.args.edit.text.now c.args.edit.edited.now) fitting (e.disk.reads.moments fitting.honest) (e.disk.reads.same fitting.honest)
    (subst (λ (o : Outcome). OneItem now o (g.T.Disk.meaning c.make_new.new.disk) (g.T.Disk.meaning c.carry_back.new.station) c.carry_back.result (StoreFits c.carry_back.new.store (g.T.Disk.meaning c.carry_back.new.station)) []) (sym here) put_so)
