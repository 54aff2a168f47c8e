use Rattle.std.proofs.Common.{◌∙◌, sym}
use Rattle.lis_model.specs.State.{pair_cmp}
use Rattle.lis_table.proofs.Places.{at_place, place_within, insert_there, insert_at}
use Rattle.lis_plain.proofs.axioms.insert_axiom.Goals as goal

pub split_at-requires : goal.split_at-requires
split_at-requires c =
    rw c.as_slice.ensures.value
    (place_within pair_cmp c.args.pair c.args.axioms.now.items c.deref.result.now c.axiom_place-place.result c.deref.ensures.value c.axiom_place-place.ensures)

pub returns-then-begins_with_axiom-clause-ok : goal.returns-then-begins_with_axiom-clause-ok
returns-then-begins_with_axiom-clause-ok c =
    let first = at_place pair_cmp c.args.pair c.args.axioms.now.items c.deref.result.now c.as_slice.result.now c.split_at.result.1.now c.axiom_place-place.result
    c.deref.ensures.value c.axiom_place-place.ensures c.as_slice.ensures.value c.split_at.ensures.back in
    sym (insert_there pair_cmp c.args.pair c.args.axioms.now.items (first ∙ sym c.if-begins_with_axiom.ensures))

pub returns-clause-ok : goal.returns-clause-ok
returns-clause-ok c =
    let first = at_place pair_cmp c.args.pair c.args.axioms.now.items c.deref.result.now c.as_slice.result.now c.split_at.result.1.now c.axiom_place-place.result
    c.deref.ensures.value c.axiom_place-place.ensures c.as_slice.ensures.value c.split_at.ensures.back in
    c.in_ok-insert.ensures.items
    ∙ insert_at pair_cmp c.args.pair c.args.axioms.now.items c.deref.result.now c.axiom_place-place.result c.deref.ensures.value c.axiom_place-place.ensures
    (first ∙ sym c.if-begins_with_axiom.ensures)
