use Rattle.lis_store.proofs.Common.{◌∙◌, ap, Err, err_from_is_err_and, rules, State, Situation, refl}
use Rattle.lis_store.specs.Stored.{StoreHolds}
use Rattle.lis_store.proofs.Judged.{view_refused}
use Rattle.lis_store.proofs.Keeping.{ends_saved}
use Rattle.lis_store.proofs.Related.{related, axiom_refused, axiom_done, axiom_fit}
use Rattle.lis_store.proofs.Relates.{axiom_change, axiom_holds}
use Rattle.lis_store.proofs.Retaken.{in_form}
use Rattle.lis_store.proofs.SavedAlone.{change_saves, whole_view, held_view}
use Rattle.lis_store.proofs.store.Store.axiom.Goals as goal

pub returns-in_err-may_relate : goal.returns-in_err-may_relate
returns-in_err-may_relate g c =
    let holds = λ (base : State) (now : Situation) (fits : StoreHolds c.args.self.now (g.D.Disk.meaning c.args.disk.now) base now.state).
    let p = err_from_is_err_and c.from_residual.result c.from_residual.ensures.1 in
    let refusal = c.in_err-may_relate.field-0.0 in
    view_refused c.self.view_is now refusal fits
    (λ held. axiom_refused c.self.invariant now held.tells c.args.left.now c.args.right.now refusal c.in_err-may_relate.ensures.row) (p.1 ∙ ap Err p.2) in
    search (rules, holds)

pub relate-requires-clause-form : goal.relate-requires-clause-form
relate-requires-clause-form g c = in_form _ c.self.invariant

pub relate-requires-clause-may : goal.relate-requires-clause-may
relate-requires-clause-may g c = related c.self.invariant.metadata c.in_ok-may_relate.ensures.row

pub hold-requires-clause-ready : goal.hold-requires-clause-ready
hold-requires-clause-ready g c =
    let change = axiom_change c.self.invariant (related c.self.invariant.metadata c.in_ok-may_relate.ensures.row) c.relate.ensures (whole_view c.self.view_is c.requires.usable.unbroken) in
    change_saves c.self.invariant (whole_view c.self.view_is c.requires.usable.unbroken) change refl

pub returns-clause-holds : goal.returns-clause-holds
returns-clause-holds g c = λ base now fits.
    let held = held_view c.self.view_is fits in
    let row = c.in_ok-may_relate.ensures.row in
    axiom_holds c.self.invariant (related c.self.invariant.metadata row) c.relate.ensures (whole_view c.self.view_is c.requires.usable.unbroken) c.hold.ensures.saves now held
    (axiom_fit c.self.invariant now held.tells c.args.left.now c.args.right.now row) (axiom_done c.self.invariant now held.tells c.args.left.now c.args.right.now row)

pub returns-clause-ends : goal.returns-clause-ends
returns-clause-ends g c =
    let change = axiom_change c.self.invariant (related c.self.invariant.metadata c.in_ok-may_relate.ensures.row) c.relate.ensures (whole_view c.self.view_is c.requires.usable.unbroken) in
    ends_saved c.self.view_is c.self.invariant change.limits change.edits refl c.hold.ensures.saved c.hold.ensures.disk
