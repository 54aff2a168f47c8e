use Rattle.std.proofs.Common.{◌≡◌, List, ℕ, length, get_or, set, ap, ◌∙◌, arith}
use Rattle.lis_ext.specs.Stride.{lists_of}
use Rattle.lis_ext.proofs.Stride.{length-lists_of, lists-set}
use Rattle.lis_ext.proofs.Counted.{retaken}
use Rattle.lis_ext.proofs.lists.Lists.set.Goals as goal

pub fill_to-requires : goal.fill_to-requires
fill_to-requires c =
    let e = c.self.inside in
    let low = rw (← c.self.view_is, length-lists_of e.numbers.items e.lengths.items) at c.requires.list in
    let room = c.self.invariant.room in
    omega (arith, room)

pub write-requires : goal.write-requires
write-requires c = omega (arith, ap length c.deref_mut.ensures.value, c.fill_to.ensures.long)

pub index_mut-requires : goal.index_mut-requires
index_mut-requires c =
    let e = c.self.inside in
    let low = rw (← c.self.view_is, length-lists_of e.numbers.items e.lengths.items) at c.requires.list in
    omega arith

pub returns : goal.returns
returns c =
    let e = c.self.inside in
    let list = c.args.list in
    let new = c.args.numbers.now in
    let filled = c.fill_to.new.numbers in
    let places = c.write.new.places in
    let low = rw (← c.self.view_is, length-lists_of e.numbers.items e.lengths.items) at c.requires.list in
    let same : length places ≡ length filled.items = c.write.auto.places ∙ ap length c.deref_mut.ensures.value in
    let long : length places ≡ filled.len = omega (arith, c.deref_mut.ensures.len, c.write.auto.places) in
    rw (← c.self.view_is) (ap (λ (xs : List ℕ). lists_of xs (set e.lengths.items list (length new))) (retaken filled.len places _ long)
    ∙ lists-set e.numbers.items e.lengths.items places new list _ c.self.invariant low c.requires.few (omega (arith, same, c.fill_to.ensures.no_shorter)) (omega (arith, same, c.fill_to.ensures.long)) c.write.ensures.written
    (λ k out. c.write.ensures.others k out ∙ (ap (λ (xs : List ℕ). get_or xs k 0) c.deref_mut.ensures.value ∙ c.fill_to.ensures.same k)))
