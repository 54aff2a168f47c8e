use Rattle.lis_store.proofs.Common.{◌∙◌, Err, length, is_some, refl, sym, ap, subst, arith, err_from_is_err_and, resolved, rules, State}
use Rattle.lis_store.specs.Memory.{stored}
use Rattle.lis_store.specs.Stored.{Stored, IsSound, StoreHolds}
use Rattle.lis_store.proofs.Keeping.{ends_saved}
use Rattle.lis_store.proofs.MoveFile.{led_to, moved_nowhere, moving_refused, standing_refused, move_asks, move_holds, moved_to_none}
use Rattle.lis_store.proofs.ReplaceFile.{still_in_form, still_below, refiled_change}
use Rattle.lis_store.proofs.SavedAlone.{change_saves, whole_view}
use Rattle.lis_store.proofs.WriteFile.{found_there}
use Rattle.lis_store.proofs.store.Store.retag.Goals as goal

pub returns-in_default-clause-holds : goal.returns-in_default-clause-holds
returns-in_default-clause-holds g c = λ base s holds.
    let sound = subst (λ (k : Stored). IsSound k) c.self.view_is c.self.invariant in
    let leads = led_to (resolved c.args.place.now c.args.text.now) c.in_ok-next.next (sym c.in_ok-next.ensures) in
    moved_nowhere c.args.self.now (g.D.Disk.meaning c.args.disk.now) base s c.args.place.now c.in_ok-next.next c.args.name.now c.args.text.now _ sound holds leads (sym c.in_default.ensures.here) refl

pub may_move-requires-clause-rec : goal.may_move-requires-clause-rec
may_move-requires-clause-rec g c = ap is_some (found_there c.self.view_is c.self.invariant c.args.name.now c.in-Some.ensures.slot).1

pub returns-in_err-words : goal.returns-in_err-words
returns-in_err-words g c =
    let holds = λ (base : State) (s : State) (holds : StoreHolds c.args.self.now (g.D.Disk.meaning c.args.disk.now) base s).
    let e = err_from_is_err_and c.from_residual-in_err-words.result c.from_residual-in_err-words.ensures.1 in
    moving_refused c.self.view_is c.self.invariant c.args.place.now c.args.name.now c.in-Some.ensures.slot c.in-Some.ensures.here c.args.text.now c.in_ok-next.ensures (g.D.Disk.meaning c.args.disk.now) base s holds
    c.in_err-words.field-0.0 c.from_residual-in_err-words.result (e.1 ∙ ap Err e.2) c.in_err-words.ensures.row in
    search (rules, holds)

pub own_in-own-requires-clause-there : goal.own_in-own-requires-clause-there
own_in-own-requires-clause-there g c = ap is_some (found_there c.self.view_is c.self.invariant c.args.name.now c.in-Some.ensures.slot).1

pub size_in-requires : goal.size_in-requires
size_in-requires g c = ap is_some (found_there c.self.view_is c.self.invariant c.args.name.now c.in-Some.ensures.slot).1

pub may_stand_instead-requires-clause-there : goal.may_stand_instead-requires-clause-there
may_stand_instead-requires-clause-there g c = ap is_some (found_there c.self.view_is c.self.invariant c.args.name.now c.in-Some.ensures.slot).1

pub blocks_in-blocks-requires : goal.blocks_in-blocks-requires
blocks_in-blocks-requires g c = ap is_some (found_there c.self.view_is c.self.invariant c.args.name.now c.in-Some.ensures.slot).1

pub own_in-own-requires-clause-short : goal.own_in-own-requires-clause-short
own_in-own-requires-clause-short g c = c.self.invariant.short

pub returns-in_err-may_stand_instead : goal.returns-in_err-may_stand_instead
returns-in_err-may_stand_instead g c =
    let holds = λ (base : State) (s : State) (holds : StoreHolds c.args.self.now (g.D.Disk.meaning c.args.disk.now) base s).
    let e = err_from_is_err_and c.from_residual-in_err-may_stand_instead.result c.from_residual-in_err-may_stand_instead.ensures.1 in
    standing_refused c.self.view_is c.self.invariant c.args.place.now c.args.name.now c.in-Some.ensures.slot c.in-Some.ensures.here c.args.text.now c.in_ok-next.ensures
    c.in_ok-words.ensures.row c.size_in.ensures (λ rec is. c.as_slice.ensures.value ∙ c.in_ok-words.ensures.words rec is) (c.as_slice-2.ensures.value ∙ c.own_in-own.ensures.own) (g.D.Disk.meaning c.args.disk.now) base s holds
    c.in_err-may_stand_instead.field-0.0 c.from_residual-in_err-may_stand_instead.result (e.1 ∙ ap Err e.2) c.in_err-may_stand_instead.ensures.row in
    search (rules, holds)

pub replace_draft-requires-clause-may : goal.replace_draft-requires-clause-may
replace_draft-requires-clause-may g c =
    move_asks c.self.view_is c.self.invariant c.args.place.now c.args.name.now c.in-Some.ensures.slot c.in-Some.ensures.here c.args.text.now c.in_ok-next.ensures
    c.in_ok-words.ensures.row c.size_in.ensures (λ rec is. c.as_slice.ensures.value ∙ c.in_ok-words.ensures.words rec is) (c.as_slice-2.ensures.value ∙ c.own_in-own.ensures.own) c.in_ok-may_stand_instead.ensures.row
    (omega (arith, ap length c.as_slice-2.ensures.value, c.own_in-own.ensures.few))

pub replace_draft-requires-clause-in_form : goal.replace_draft-requires-clause-in_form
replace_draft-requires-clause-in_form g c = still_in_form c.self.view_is c.self.invariant c.args.name.now c.in-Some.ensures.slot c.blocks_in-blocks.ensures c.size_in.ensures

pub replace_draft-requires-clause-below : goal.replace_draft-requires-clause-below
replace_draft-requires-clause-below g c = still_below c.self.view_is c.self.invariant c.args.name.now c.in-Some.ensures.slot c.blocks_in-blocks.ensures

pub hold-requires-clause-ready : goal.hold-requires-clause-ready
hold-requires-clause-ready g c =
    let change = refiled_change c.self.view_is c.self.invariant c.requires.usable.unbroken c.replace_draft.ensures.refiles in
    change_saves c.self.invariant (whole_view c.self.view_is c.requires.usable.unbroken) change refl

pub returns-clause-ends : goal.returns-clause-ends
returns-clause-ends g c =
    let change = refiled_change c.self.view_is c.self.invariant c.requires.usable.unbroken c.replace_draft.ensures.refiles in
    ends_saved c.self.view_is c.self.invariant change.limits change.edits refl c.hold.ensures.saved c.hold.ensures.disk

pub returns-clause-holds : goal.returns-clause-holds
returns-clause-holds g c = λ base s holds.
    let new = stored c.hold.new.self in
    move_holds c.self.view_is c.self.invariant c.args.place.now c.args.name.now c.in-Some.ensures.slot c.in-Some.ensures.here c.args.text.now c.in_ok-next.ensures
    c.in_ok-words.ensures.row c.size_in.ensures (λ rec is. c.as_slice.ensures.value ∙ c.in_ok-words.ensures.words rec is) (c.as_slice-2.ensures.value ∙ c.own_in-own.ensures.own) c.in_ok-may_stand_instead.ensures.row
    c.replace_draft.ensures.refiles c.blocks_in-blocks.ensures c.requires.usable.unbroken (g.D.Disk.meaning c.args.disk.now) base s holds new (g.D.Disk.meaning c.hold.new.disk) c.hold.result c.hold.ensures.saves

pub returns-in_err-next : goal.returns-in_err-next
returns-in_err-next g c =
    let holds = λ (base : State) (s : State) (holds : StoreHolds c.args.self.now (g.D.Disk.meaning c.args.disk.now) base s).
    let e = err_from_is_err_and c.from_residual.result c.from_residual.ensures.1 in
    moved_to_none c.args.self.now (g.D.Disk.meaning c.args.disk.now) base s c.args.place.now c.args.name.now c.args.text.now c.in_err-next.field-0.0 c.from_residual.result holds (sym c.in_err-next.ensures) (e.1 ∙ ap Err e.2) in
    search (rules, holds)
