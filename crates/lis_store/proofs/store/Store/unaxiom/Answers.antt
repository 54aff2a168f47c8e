use Rattle.lis_store.proofs.Common.{refl, sym, false}
use Rattle.lis_model.specs.declared.refusal.Refusal.TheVariants.{NoAxiom}
use Rattle.lis_store.proofs.Judged.{view_refused}
use Rattle.lis_store.proofs.Keeping.{ends_saved}
use Rattle.lis_store.proofs.Retaken.{in_form}
use Rattle.lis_store.proofs.SavedAlone.{change_saves, whole_view, held_view}
use Rattle.lis_store.proofs.Unaxiomed.{may_go, unaxiom_is, unaxiom_change, unaxiom_holds}
use Rattle.lis_store.proofs.store.Store.unaxiom.Goals as goal

pub returns-in_default-clause-holds : goal.returns-in_default-clause-holds
returns-in_default-clause-holds g c = λ base now fits.
    view_refused c.self.view_is now NoAxiom fits (λ held. unaxiom_is c.args.left.now c.args.right.now false (sym c.in_default.ensures.there) now held) refl

pub take_axiom-requires-clause-form : goal.take_axiom-requires-clause-form
take_axiom-requires-clause-form g c = in_form _ c.self.invariant

pub take_axiom-requires-clause-may : goal.take_axiom-requires-clause-may
take_axiom-requires-clause-may g c =
    may_go c.self.inside.memory.metadata c.self.invariant.pairs c.args.left.now c.args.right.now c.in-Some.from c.in-Some.to c.in-Some.ensures.numbers

pub hold-requires-clause-ready : goal.hold-requires-clause-ready
hold-requires-clause-ready g c =
    let change = unaxiom_change c.self.invariant c.take_axiom.ensures (whole_view c.self.view_is c.requires.usable.unbroken) in
    change_saves c.self.invariant (whole_view c.self.view_is c.requires.usable.unbroken) change refl

pub returns-clause-holds : goal.returns-clause-holds
returns-clause-holds g c = λ base now fits.
    unaxiom_holds c.self.invariant c.take_axiom.ensures c.in-Some.ensures.numbers (sym c.in-Some.ensures.there) (whole_view c.self.view_is c.requires.usable.unbroken) c.hold.ensures.saves now (held_view c.self.view_is fits)

pub returns-clause-ends : goal.returns-clause-ends
returns-clause-ends g c =
    let change = unaxiom_change c.self.invariant c.take_axiom.ensures (whole_view c.self.view_is c.requires.usable.unbroken) in
    ends_saved c.self.view_is c.self.invariant change.limits change.edits refl c.hold.ensures.saved c.hold.ensures.disk
