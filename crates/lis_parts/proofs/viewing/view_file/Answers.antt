use Rattle.std.proofs.Common.{[], Some, sym, subst, ◌∙◌}
use Rattle.lis_model.specs.Step.{Outcome}
use Rattle.lis_store.specs.Stored.{StoreFits}
use Rattle.lis_session.specs.Session.{root_of}
use Rattle.lis_session.specs.Item.{OneItem}
use Rattle.lis_session.proofs.DiskKept.{shows_stay}
use Rattle.lis_session.proofs.Saying.{shows_item}
use Rattle.lis_parts.specs.Commands.{view}
use Rattle.lis_parts.proofs.Puts.{slot_named, done_refused, done_nowhere, done_here}
use Rattle.lis_parts.proofs.Viewed.{shows_view}
use Rattle.lis_parts.proofs.viewing.view_file.Goals as goal

pub returns-in-Err-clause-shows : goal.returns-in-Err-clause-shows
returns-in-Err-clause-shows g c = λ state fitting.
    let name = c.args.name.now in
    shows_item (view (root_of state) name c.args.text.now) [] fitting c.answer_refusal.ensures (done_refused state name _ (shows_view state name) (sym c.in-Err.ensures))

pub returns-in_default-clause-shows : goal.returns-in_default-clause-shows
returns-in_default-clause-shows g c = λ state fitting.
    let name = c.args.name.now in
    shows_item (view (root_of state) name c.args.text.now) [] fitting c.answer_refusal-in_default.ensures
    (done_nowhere state name _ (shows_view state name) (sym c.in-Ok.ensures) c.requires.sound fitting.own (sym c.slot_of.ensures ∙ c.in_default.is))

pub view_slot-requires-clause-slot : goal.view_slot-requires-clause-slot
view_slot-requires-clause-slot g c = (c.args.name.now, slot_named c.args.store.now c.args.name.now (Some c.in-Some.slot) (sym c.in-Some.ensures))

pub returns-clause-shows : goal.returns-clause-shows
returns-clause-shows g c = λ state fitting.
    let k = c.args.store.now in
    let name = c.args.name.now in
    let found = sym c.in-Some.ensures in
    let here = done_here state name _ (shows_view state name) (sym c.in-Ok.ensures) c.requires.sound fitting.own c.in-Some.slot found in
    let shown = c.view_slot.ensures.shows name (slot_named k name (Some c.in-Some.slot) found) in
    let new = g.T.Disk.meaning c.view_slot.new.station in
    subst (λ (o : Outcome). OneItem (root_of state) o (g.T.Disk.meaning c.args.station.now) new c.view_slot.result (StoreFits k new) []) (sym here) (shown.shows state fitting)

pub returns-clause-ends : goal.returns-clause-ends
returns-clause-ends g c = (c.view_slot.ensures.shows c.args.name.now (slot_named c.args.store.now c.args.name.now (Some c.in-Some.slot) (sym c.in-Some.ensures))).ends

pub returns-in-Err-clause-disk : goal.returns-in-Err-clause-disk
returns-in-Err-clause-disk g c = shows_stay c.answer_refusal.ensures.run

pub returns-in_default-clause-disk : goal.returns-in_default-clause-disk
returns-in_default-clause-disk g c = shows_stay c.answer_refusal-in_default.ensures.run

pub returns-clause-disk : goal.returns-clause-disk
returns-clause-disk g c = (c.view_slot.ensures.shows c.args.name.now (slot_named c.args.store.now c.args.name.now (Some c.in-Some.slot) (sym c.in-Some.ensures))).disk
