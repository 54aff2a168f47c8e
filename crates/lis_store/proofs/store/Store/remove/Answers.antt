use Rattle.lis_store.proofs.Common.{◌∙◌, refl, sym, ap, subst, is_some, Err, err_from_is_err_and, slot_of, Situation, rm, rules, State}
use Rattle.lis_journal.specs.Journal.{shape_of}
use Rattle.lis_store.specs.Memory.{stored}
use Rattle.lis_store.specs.Stored.{Stored, IsSound, StoreHolds}
use Rattle.lis_store.proofs.Keeping.{ends_saved}
use Rattle.lis_store.proofs.RemoveFile.{removed_refused, lost_sound, lost_holds, lost_keeps, form_given, there_given, removed_change, removed_holds}
use Rattle.lis_store.proofs.SavedAlone.{change_saves, whole_view}
use Rattle.lis_store.proofs.WriteFile.{found_there}
use Rattle.lis_store.proofs.store.Store.remove.Goals as goal

pub returns-in_default-clause-holds : goal.returns-in_default-clause-holds
returns-in_default-clause-holds g c = λ base s holds.
    let P : Stored → Type 0 = λ k. IsSound k in
    let sound = subst P c.self.view_is c.self.invariant in
    removed_refused c.args.self.now (g.D.Disk.meaning c.args.disk.now) c.args.place.now c.args.name.now _ sound (sym c.in_default.ensures.here) refl base s holds

pub free_content-requires-clause-there : goal.free_content-requires-clause-there
free_content-requires-clause-there g c = ap is_some (found_there c.self.view_is c.self.invariant c.args.name.now c.in-Some.ensures.slot).1

pub invariant_of-self : goal.invariant_of-self
invariant_of-self g c =
    let old = stored c.self.inside.memory in
    let named = ap (λ (k : Stored). slot_of k.metadata.catalog c.args.name.now) c.self.view_is ∙ c.in-Some.ensures.slot in
    lost_sound (Unit {0}) old c.in-Some.slot c.args.name.now c.self.invariant named c.free_content.new.self.metadata c.free_content.new.self.journal c.free_content.new.self.is_broken c.in_err-free_content.field-0.0
    (g.D.Disk.meaning c.args.disk.now) (g.D.Disk.meaning c.free_content.new.disk) c.free_content.ensures.journal c.in_err-free_content.ensures.given c.in_err-free_content.ensures.ends.ended

pub returns-in_err-free_content : goal.returns-in_err-free_content
returns-in_err-free_content g c =
    let m = g.D.Disk.meaning c.args.disk.now in
    let after = g.D.Disk.meaning c.free_content.new.disk in
    let old = stored c.self.inside.memory in
    let named = ap (λ (k : Stored). slot_of k.metadata.catalog c.args.name.now) c.self.view_is ∙ c.in-Some.ensures.slot in
    let given = c.in_err-free_content.ensures.given in
    let ended = c.in_err-free_content.ensures.ends.ended in
    let lost = c.free_content.new.self in
    let same = c.free_content.ensures.journal in
    let fault = c.in_err-free_content.field-0.0 in
    let p = err_from_is_err_and c.from_residual.result c.from_residual.ensures.1 in
    let keeps = lost_keeps (Unit {0}) old c.in-Some.slot c.args.name.now c.self.invariant named lost.metadata lost.journal lost.is_broken fault m after same given ended c.self.view_is (p.1 ∙ ap Err p.2) in
    let holds = λ (base : State) (s : State) (holds : StoreHolds c.args.self.now m base s).
    let now : Situation = record { state = s; place = c.args.place.now } in
    let H : Stored → Type 0 = λ k. StoreHolds k m base s in
    lost_holds (Unit {0}) old c.in-Some.slot c.args.name.now c.self.invariant named lost.metadata lost.journal lost.is_broken fault m after same given ended
    base now (rm now c.args.name.now) c.from_residual.result (p.1 ∙ ap Err p.2) (subst H (sym c.self.view_is) holds) in
    search (rules, keeps, holds)

pub take_out-requires-clause-form : goal.take_out-requires-clause-form
take_out-requires-clause-form g c =
    form_given c.self.view_is c.self.invariant c.requires.usable.unbroken c.args.place.now c.args.name.now c.in-Some.ensures.slot c.in-Some.ensures.here c.in_ok-free_content.ensures.given

pub take_out-requires-clause-there : goal.take_out-requires-clause-there
take_out-requires-clause-there g c =
    there_given c.self.view_is c.self.invariant c.requires.usable.unbroken c.args.place.now c.args.name.now c.in-Some.ensures.slot c.in-Some.ensures.here c.in_ok-free_content.ensures.given

pub hold-requires-clause-ready : goal.hold-requires-clause-ready
hold-requires-clause-ready g c =
    let change = removed_change c.self.view_is c.self.invariant c.requires.usable.unbroken c.args.place.now c.args.name.now c.in-Some.ensures.slot c.in-Some.ensures.here c.in_ok-free_content.ensures.given c.take_out.ensures in
    change_saves c.self.invariant (whole_view c.self.view_is c.requires.usable.unbroken) change c.free_content.ensures.journal

pub returns-clause-ends : goal.returns-clause-ends
returns-clause-ends g c =
    let change = removed_change c.self.view_is c.self.invariant c.requires.usable.unbroken c.args.place.now c.args.name.now c.in-Some.ensures.slot c.in-Some.ensures.here c.in_ok-free_content.ensures.given c.take_out.ensures in
    ends_saved c.self.view_is c.self.invariant change.limits change.edits (ap shape_of c.free_content.ensures.journal) c.hold.ensures.saved (search rules)

pub returns-clause-holds : goal.returns-clause-holds
returns-clause-holds g c = λ base s holds.
    removed_holds c.self.view_is c.self.invariant c.requires.usable.unbroken c.args.place.now c.args.name.now c.in-Some.ensures.slot c.in-Some.ensures.here c.in_ok-free_content.ensures.given c.take_out.ensures c.free_content.ensures.journal c.hold.ensures.saves base s holds
