use Rattle.lis_store.proofs.Common.{◌∙◌, ◌≤◌, Err, is_some, refl, sym, ap, subst, arith, err_from_is_err_and, slot_of, new_file, file_added, file_limit, State, Situation, Outcome, Payload, write, changed, rules}
use Rattle.lis_store.specs.Memory.{stored}
use Rattle.lis_store.specs.Stored.{Stored, IsSound, StoreHolds}
use Rattle.lis_store.specs.Changes.{Holds}
use Rattle.lis_store.specs.Judging.{is_among}
use Rattle.lis_store.specs.Instead.{given_before}
use Rattle.lis_store.proofs.WriteFile.{found_there, rest_of_write, written_refused, written_nowhere, write_asks, write_does}
use Rattle.lis_store.proofs.store.Store.write.Goals as goal

pub returns-in_default-clause-holds : goal.returns-in_default-clause-holds
returns-in_default-clause-holds g c = λ base s holds.
    let payload : Payload = record { size = c.args.size; bytes = c.args.payload.now } in
    let sound = subst (λ (k : Stored). IsSound k) c.self.view_is c.self.invariant in
    let small : c.args.size ≤ file_limit c.args.self.now.metadata.limits = omega (arith, c.if-size-file_limit.false, c.file_limit.ensures, ap file_limit c.limits.ensures.value, ap (λ (k : Stored). file_limit k.metadata.limits) c.self.view_is) in
    written_nowhere c.args.self.now (g.D.Disk.meaning c.args.disk.now) c.args.place.now c.args.name.now _ sound base s holds payload small (sym c.in_default.ensures.here) refl

pub may_write-requires-clause-there : goal.may_write-requires-clause-there
may_write-requires-clause-there g c =
    ap is_some (found_there c.self.view_is c.self.invariant c.args.name.now c.in-Some.ensures.slot).1

pub returns-in_err-words : goal.returns-in_err-words
returns-in_err-words g c =
    let holds = λ (base : State) (s : State) (holds : StoreHolds c.args.self.now (g.D.Disk.meaning c.args.disk.now) base s).
    let e = err_from_is_err_and c.from_residual.result c.from_residual.ensures.1 in
    let m = g.D.Disk.meaning c.args.disk.now in
    let now : Situation = record { state = s; place = c.args.place.now } in
    let payload : Payload = record { size = c.args.size; bytes = c.args.payload.now } in
    let old = stored c.self.inside.memory in
    let named = ap (λ (k : Stored). slot_of k.metadata.catalog c.args.name.now) c.self.view_is ∙ c.in-Some.ensures.slot in
    let found = found_there c.self.view_is c.self.invariant c.args.name.now c.in-Some.ensures.slot in
    let small : c.args.size ≤ file_limit c.self.inside.memory.metadata.limits = omega (arith, c.if-size-file_limit.false, c.file_limit.ensures, ap file_limit c.limits.ensures.value) in
    let here = ap (λ (k : Stored). is_among k.metadata c.args.place.now c.args.name.now) c.self.view_is ∙ sym c.in-Some.ensures.here in
    let P : Stored → Type 0 = λ k. StoreHolds k m base s in
    let Q : Stored → Type 0 = λ k. Holds base now (write now c.args.name.now payload) k m m c.from_residual.result in
    subst Q c.self.view_is
    (written_refused old m c.args.place.now c.args.name.now c.from_residual.result c.self.invariant base s (subst P (sym c.self.view_is) holds) c.in-Some.slot found.0 (λ _. (named, found.1)) payload c.in_err-words.field-0.0
    (rest_of_write c.self.inside.memory.metadata c.args.place.now c.args.name.now c.in-Some.slot found.0 (given_before c.self.inside.memory.metadata found.0 c.args.name.now c.args.payload.now) c.args.size small here
    ∙ c.in_err-words.ensures.row found.0 found.1) (e.1 ∙ ap Err e.2)) in
    search (rules, holds)

pub put_file-requires-clause-may : goal.put_file-requires-clause-may
put_file-requires-clause-may g c =
    let small : c.args.size ≤ file_limit c.self.inside.memory.metadata.limits = omega (arith, c.if-size-file_limit.false, c.file_limit.ensures, ap file_limit c.limits.ensures.value) in
    (write_asks c.self.view_is c.self.invariant c.args.place.now c.args.name.now c.in-Some.ensures.slot c.in-Some.ensures.here c.args.payload.now small c.requires.whole c.in_ok-words.ensures.row c.in_ok-words.ensures.words refl).0

pub returns-clause-holds : goal.returns-clause-holds
returns-clause-holds g c = λ base s holds.
    let m = g.D.Disk.meaning c.args.disk.now in
    let now : Situation = record { state = s; place = c.args.place.now } in
    let file = new_file c.args.name.now c.in_ok-words.words.assigned.items c.args.payload.now in
    let small : c.args.size ≤ file_limit c.self.inside.memory.metadata.limits = omega (arith, c.if-size-file_limit.false, c.file_limit.ensures, ap file_limit c.limits.ensures.value) in
    let asks = write_asks c.self.view_is c.self.invariant c.args.place.now c.args.name.now c.in-Some.ensures.slot c.in-Some.ensures.here c.args.payload.now small c.requires.whole c.in_ok-words.ensures.row c.in_ok-words.ensures.words refl in
    let does = write_does c.self.view_is c.self.invariant c.args.place.now c.args.name.now c.in-Some.ensures.slot c.in-Some.ensures.here c.args.payload.now small c.requires.whole c.in_ok-words.ensures.row c.in_ok-words.ensures.words m base s holds in
    let O : Outcome → Type 0 = λ o. Holds base now o c.put_file.new.self m (g.D.Disk.meaning c.put_file.new.disk) c.put_file.result in
    subst O (sym (does ∙ ap (λ (t : State). changed now (file_added t file)) (sym (asks.1 s)))) (c.put_file.ensures.holds base now holds)
