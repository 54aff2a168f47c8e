use Rattle.lis_store.proofs.Common.{◌∙◌, ap, Err, is_some, err_from_is_err_and, rules, State, Situation, refl}
use Rattle.lis_store.specs.Stored.{StoreHolds}
use Rattle.lis_store.proofs.Judged.{view_refused}
use Rattle.lis_store.proofs.Keeping.{ends_saved}
use Rattle.lis_store.proofs.Undeclared.{undeclared_may, undeclared_named, undeclared_change, undeclared_holds, undeclared_refused}
use Rattle.lis_store.proofs.Retaken.{in_form}
use Rattle.lis_store.proofs.SavedAlone.{change_saves, whole_view, held_view}
use Rattle.lis_store.proofs.store.Store.undeclare.Goals as goal

pub returns-in_err-number : goal.returns-in_err-number
returns-in_err-number g c =
    let holds = λ (base : State) (now : Situation) (fits : StoreHolds c.args.self.now (g.D.Disk.meaning c.args.disk.now) base now.state).
    let p = err_from_is_err_and c.from_residual.result c.from_residual.ensures.1 in
    let refusal = c.in_err-number.field-0.0 in
    view_refused c.self.view_is now refusal fits (λ held. undeclared_refused c.self.invariant c.args.word.now refusal c.in_err-number.ensures.row now held) (p.1 ∙ ap Err p.2) in
    search (rules, holds)

pub undeclare_unmet-requires-clause-form : goal.undeclare_unmet-requires-clause-form
undeclare_unmet-requires-clause-form g c = in_form _ c.self.invariant

pub undeclare_unmet-requires-clause-may : goal.undeclare_unmet-requires-clause-may
undeclare_unmet-requires-clause-may g c = undeclared_may c.self.invariant c.in_ok-number.ensures.may

pub undeclare_unmet-requires-clause-number : goal.undeclare_unmet-requires-clause-number
undeclare_unmet-requires-clause-number g c = ap is_some (undeclared_named c.self.invariant c.in_ok-number.ensures.may)

pub hold-requires-clause-ready : goal.hold-requires-clause-ready
hold-requires-clause-ready g c =
    let change = undeclared_change c.self.invariant c.in_ok-number.ensures.may (whole_view c.self.view_is c.requires.usable.unbroken) c.undeclare_unmet.ensures in
    change_saves c.self.invariant (whole_view c.self.view_is c.requires.usable.unbroken) change refl

pub returns-clause-ends : goal.returns-clause-ends
returns-clause-ends g c =
    let change = undeclared_change c.self.invariant c.in_ok-number.ensures.may (whole_view c.self.view_is c.requires.usable.unbroken) c.undeclare_unmet.ensures in
    ends_saved c.self.view_is c.self.invariant change.limits change.edits refl c.hold.ensures.saved c.hold.ensures.disk

pub returns-clause-holds : goal.returns-clause-holds
returns-clause-holds g c = λ base now fits.
    undeclared_holds c.self.invariant c.in_ok-number.ensures.may (whole_view c.self.view_is c.requires.usable.unbroken) c.undeclare_unmet.ensures c.hold.ensures.saves c.in_ok-number.ensures.row now
    (held_view c.self.view_is fits)
