use Rattle.lis_store.proofs.Common.{◌∙◌, sym, ap, subst, ℕ, List, None, Err, err_from_is_err_and, new_file, file_added, assigned_at, Situation, Outcome, Payload, add, Metadata, changed, rules, State}
use Rattle.lis_store.specs.ReplacingIn.{MayPutBytes}
use Rattle.lis_store.specs.Memory.{stored}
use Rattle.lis_store.specs.Stored.{Stored, StoreHolds}
use Rattle.lis_store.specs.Changes.{Holds}
use Rattle.lis_store.proofs.Admitted.{whole_inside, admitted, enough_free, add_done, added_refused}
use Rattle.lis_store.proofs.ToldBy.{told_held}
use Rattle.lis_store.proofs.store.Store.add.Goals as goal

pub returns-in_err-words : goal.returns-in_err-words
returns-in_err-words g c =
    let holds = λ (base : State) (s : State) (holds : StoreHolds c.args.self.now (g.D.Disk.meaning c.args.disk.now) base s).
    let p = err_from_is_err_and c.from_residual.result c.from_residual.ensures.1 in
    let m = g.D.Disk.meaning c.args.disk.now in
    let old = stored c.self.inside.memory in
    let now : Situation = record { state = s; place = c.args.place.now } in
    let payload : Payload = record { size = c.args.file.size; bytes = c.args.file.bytes.now } in
    let H : Stored → Type 0 = λ k. StoreHolds k m base s in
    let Q : Stored → Type 0 = λ k. Holds base now (add now c.args.file.name.now c.args.file.tags.now payload) k m m c.from_residual.result in
    subst Q c.self.view_is
    (added_refused old m c.args.place.now c.args.file.name.now c.args.file.tags.now payload c.in_err-words.field-0.0 c.from_residual.result c.self.invariant
    c.in_err-words.ensures.row (p.1 ∙ ap Err p.2) base s (subst H (sym c.self.view_is) holds)) in
    search (rules, holds)

pub put_file-requires-clause-may : goal.put_file-requires-clause-may
put_file-requires-clause-may g c =
    let k = c.self.inside.memory.metadata in
    let whole = whole_inside c.args.file.bytes.now c.args.file.size c.self.view_is c.requires.whole in
    let M : List (List ℕ) → Metadata → Type 0 = λ ws k. MayPutBytes k None (new_file c.args.file.name.now ws c.args.file.bytes.now) in
    let one : M (assigned_at c.args.place.now c.args.file.tags.now) k = (
      admitted k c.args.place.now c.args.file.name.now c.args.file.tags.now c.args.file.bytes.now c.args.file.size c.in_ok-words.ensures.name whole c.in_ok-words.ensures.row,
      enough_free k c.args.place.now c.args.file.name.now c.args.file.tags.now c.args.file.bytes.now c.args.file.size c.in_ok-words.ensures.name whole c.in_ok-words.ensures.row,
    ) in
    let A = M c.in_ok-words.words.assigned.items in
    subst (λ (k : Stored). A k.metadata) c.self.view_is (subst (λ ws. M ws k) (sym c.in_ok-words.ensures.words) one)

pub returns-clause-holds : goal.returns-clause-holds
returns-clause-holds g c = λ base s holds.
    let m = g.D.Disk.meaning c.args.disk.now in
    let after = g.D.Disk.meaning c.put_file.new.disk in
    let old = stored c.self.inside.memory in
    let now : Situation = record { state = s; place = c.args.place.now } in
    let payload : Payload = record { size = c.args.file.size; bytes = c.args.file.bytes.now } in
    let made : List (List ℕ) → Outcome = λ ws. changed now (file_added s (new_file c.args.file.name.now ws c.args.file.bytes.now)) in
    let H : Stored → Type 0 = λ k. StoreHolds k m base s in
    let held = subst H (sym c.self.view_is) holds in
    let is = add_done old s c.self.invariant (told_held old m base s c.self.invariant held) c.args.place.now c.args.file.tags.now c.args.file.name.now payload c.in_ok-words.ensures.row ∙ ap made (sym c.in_ok-words.ensures.words) in
    let O : Outcome → Type 0 = λ o. Holds base now o c.put_file.new.self m after c.put_file.result in
    subst O (sym is) (c.put_file.ensures.holds base now holds)
