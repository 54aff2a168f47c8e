use Rattle.std.proofs.Common.{◌<◌, None, length, ap, ◌∙◌, arith}
use Rattle.std.proofs.lemmas.List.{get_or_default}
use Rattle.lis_catalog.specs.Catalog.{rec_at}
use Rattle.lis_catalog.proofs.Taken.{taken_cut}
use Rattle.lis_catalog.proofs.Held.{nothing_gone, seen_at, in_order, in_records, cut_held, cut_same}
use Rattle.lis_catalog.proofs.catalog.Catalog.remove.Goals as goal

pub returns-in_err-place-clause-gone : goal.returns-in_err-place-clause-gone
returns-in_err-place-clause-gone c = nothing_gone c.args.self.now c.args.slot c.in_err-place.ensures.none

pub remove-self-inside-requires : goal.remove-self-inside-requires
remove-self-inside-requires c =
    let i = c.self.inside in
    let at = seen_at i.files i.records.items i.order.items c.args.self.now c.self.view_is c.in_ok-place.place c.args.slot c.in_ok-place.ensures.place in
    omega (arith, in_order i.files _ i.records.items i.order.items c.self.invariant.held c.args.slot c.in_ok-place.place at)

pub index_mut-requires : goal.index_mut-requires
index_mut-requires c =
    let i = c.self.inside in
    let at = seen_at i.files i.records.items i.order.items c.args.self.now c.self.view_is c.in_ok-place.place c.args.slot c.in_ok-place.ensures.place in
    omega (arith, in_records i.files _ i.records.items i.order.items c.self.invariant.held c.args.slot c.in_ok-place.place at)

pub invariant_of-self : goal.invariant_of-self
invariant_of-self c =
    let i = c.self.inside in
    let at = seen_at i.files i.records.items i.order.items c.args.self.now c.self.view_is c.in_ok-place.place c.args.slot c.in_ok-place.ensures.place in
    rw (c.take.ensures.after, c.remove-self-inside.ensures.items) (record {
      held = cut_held i.files _ i.records.items i.order.items c.self.invariant.held c.args.slot c.in_ok-place.place at _ (omega (arith, c.remove-self-inside.ensures.capacity, c.self.invariant.held.has_room));
      taken = taken_cut i.records.items i.free_from c.min-self-inside.result c.args.slot c.self.invariant.taken (omega (arith, c.min-self-inside.ensures)) (omega (arith, c.min-self-inside.ensures));
    })

pub returns-clause-was : goal.returns-clause-was
returns-clause-was c =
    let i = c.self.inside in
    let at = seen_at i.files i.records.items i.order.items c.args.self.now c.self.view_is c.in_ok-place.place c.args.slot c.in_ok-place.ensures.place in
    let low : c.args.slot < length i.records.items = omega (arith, in_records i.files _ i.records.items i.order.items c.self.invariant.held c.args.slot c.in_ok-place.place at) in
    c.take.ensures.value
    ∙ (c.index_mut.ensures.value
    ∙ (get_or_default i.records.items c.args.slot c.index_mut.result.now None low
    ∙ (c.self.invariant.held.told c.args.slot ∙ ap (λ s. rec_at s c.args.slot) c.self.view_is)))

pub returns-clause-gone : goal.returns-clause-gone
returns-clause-gone c =
    let i = c.self.inside in
    let at = seen_at i.files i.records.items i.order.items c.args.self.now c.self.view_is c.in_ok-place.place c.args.slot c.in_ok-place.ensures.place in
    rw (c.take.ensures.after, c.remove-self-inside.ensures.items, ← c.self.view_is)
    (cut_same i.files _ i.records.items i.order.items c.self.invariant.held c.args.slot c.in_ok-place.place at)
