use Rattle.lis_store.proofs.Common.{◌∙◌, sym, ap, subst, arith, get, slot_of, Limits}
use Rattle.lis_store.specs.Stored.{Stored, IsSound}
use Rattle.lis_store.proofs.FilesHere.{none_here, named_here, slot_in}
use Rattle.lis_store.proofs.store.Store.slot_here.Goals as goal

pub returns-in_default-clause-here : goal.returns-in_default-clause-here
returns-in_default-clause-here c =
    let P : Stored → Type 0 = λ k. IsSound k in
    let sound = subst P c.self.view_is c.self.invariant in
    sym (none_here c.args.self.now.metadata sound.metadata c.args.place.now c.args.name.now
    (ap (λ (k : Stored). slot_of k.metadata.catalog c.args.name.now) (sym c.self.view_is) ∙ sym c.in_default.ensures.slot))

pub found-requires-clause-slot : goal.found-requires-clause-slot
found-requires-clause-slot c =
    let P : Stored → Type 0 = λ k. IsSound k in
    let sound = subst P c.self.view_is c.self.invariant in
    let lt = slot_in c.args.self.now.metadata sound.metadata c.args.name.now c.in-Some.slot (ap (λ (k : Stored). slot_of k.metadata.catalog c.args.name.now) (sym c.self.view_is) ∙ sym c.in-Some.ensures.slot) in
    omega (arith, lt, ap (λ (l : Limits). l.files) c.evaluate.ensures.room.within)

pub returns-then-found-clause-here : goal.returns-then-found-clause-here
returns-then-found-clause-here c =
    let P : Stored → Type 0 = λ k. IsSound k in
    let sound = subst P c.self.view_is c.self.invariant in
    sym (named_here c.args.self.now.metadata sound.metadata c.args.place.now c.args.name.now c.in-Some.slot (get c.evaluate.new.scratch.files 0)
    (ap (λ (k : Stored). slot_of k.metadata.catalog c.args.name.now) (sym c.self.view_is) ∙ sym c.in-Some.ensures.slot) c.evaluate.ensures.found
    ∙ (sym c.found.ensures ∙ c.if-found.true))

pub returns-clause-here : goal.returns-clause-here
returns-clause-here c =
    let P : Stored → Type 0 = λ k. IsSound k in
    let sound = subst P c.self.view_is c.self.invariant in
    sym (named_here c.args.self.now.metadata sound.metadata c.args.place.now c.args.name.now c.in-Some.slot (get c.evaluate.new.scratch.files 0)
    (ap (λ (k : Stored). slot_of k.metadata.catalog c.args.name.now) (sym c.self.view_is) ∙ sym c.in-Some.ensures.slot) c.evaluate.ensures.found
    ∙ (sym c.found.ensures ∙ c.if-found.false))
