use Rattle.lis_store.proofs.Common.{◌∙◌, sym, ap, subst, List, ℕ, Err, err_from_is_err_and, rules, State, refl}
use Rattle.lis_store.specs.Stored.{StoreHolds}
use Rattle.lis_store.specs.Testing.{MayDeclare}
use Rattle.lis_store.proofs.Judged.{view_refused}
use Rattle.lis_store.proofs.Keeping.{ends_saved}
use Rattle.lis_store.proofs.Retaken.{in_form}
use Rattle.lis_store.proofs.SavedAlone.{change_saves, whole_view, held_view}
use Rattle.lis_store.proofs.Tested.{declared_change, declared_holds, declared_refused}
use Rattle.lis_store.proofs.store.Store.declare.Goals as goal

pub returns-in_err-places : goal.returns-in_err-places
returns-in_err-places g c =
    let holds = λ (base : State) (s : State) (fits : StoreHolds c.args.self.now (g.D.Disk.meaning c.args.disk.now) base s).
    let p = err_from_is_err_and c.from_residual.result c.from_residual.ensures.1 in
    let refusal = c.in_err-places.field-0.0 in
    view_refused c.self.view_is (record { state = s; place = c.args.place.now }) refusal fits
    (λ held. declared_refused c.self.invariant c.args.place.now c.args.word.now refusal c.may_declare.ensures.word c.in_err-places.ensures.row s held) (p.1 ∙ ap Err p.2) in
    search (rules, holds)

pub declare_tested-requires-clause-form : goal.declare_tested-requires-clause-form
declare_tested-requires-clause-form g c = in_form _ c.self.invariant

pub declare_tested-requires-clause-may : goal.declare_tested-requires-clause-may
declare_tested-requires-clause-may g c = subst (λ (ns : List ℕ). MayDeclare c.self.inside.memory.metadata c.args.word.now ns) (sym c.as_slice.ensures.value) c.in_ok-places.ensures.may

pub hold-requires-clause-ready : goal.hold-requires-clause-ready
hold-requires-clause-ready g c =
    let change = declared_change c.self.invariant (whole_view c.self.view_is c.requires.usable.unbroken) c.in_ok-places.ensures.may c.as_slice.ensures.value c.declare_tested.ensures in
    change_saves c.self.invariant (whole_view c.self.view_is c.requires.usable.unbroken) change refl

pub returns-clause-ends : goal.returns-clause-ends
returns-clause-ends g c =
    let change = declared_change c.self.invariant (whole_view c.self.view_is c.requires.usable.unbroken) c.in_ok-places.ensures.may c.as_slice.ensures.value c.declare_tested.ensures in
    ends_saved c.self.view_is c.self.invariant change.limits change.edits refl c.hold.ensures.saved c.hold.ensures.disk

pub returns-clause-holds : goal.returns-clause-holds
returns-clause-holds g c = λ base s fits.
    declared_holds c.self.invariant (whole_view c.self.view_is c.requires.usable.unbroken) c.in_ok-places.ensures.may c.as_slice.ensures.value c.declare_tested.ensures
    c.hold.ensures.saves c.args.place.now c.may_declare.ensures.word c.in_ok-places.ensures.told c.in_ok-places.ensures.row s (held_view c.self.view_is fits)
