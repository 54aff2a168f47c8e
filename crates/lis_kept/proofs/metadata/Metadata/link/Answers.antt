use Rattle.std.proofs.Common.{arith}
use Rattle.lis_kept.proofs.Common.{◌≡◌, Some, ◌∙◌, ◌<◌, refl, sym, ap, subst, set, is_some, FreeAxiom, Pair}
use Rattle.std.specs.List.{position}
use Rattle.lis_kept.specs.Linking.{is_free, MayLink, Links}
use Rattle.lis_kept.specs.Metadata.{Metadata}
use Rattle.lis_kept.specs.Links.{AreHeld}
use Rattle.lis_kept.proofs.FewEdges.{has_room}
use Rattle.lis_kept.proofs.Formed.{named_below}
use Rattle.lis_kept.proofs.AxiomSlots.{axiom_within, first_is_some, first_no_later, free_place}
use Rattle.lis_kept.proofs.AxiomsChanged.{link_refused, links}
use Rattle.lis_kept.specs.contracts.metadata.Metadata.{the_view}
use Rattle.lis_kept.proofs.metadata.Metadata.link.Goals.{In-Some}
use Rattle.lis_kept.proofs.metadata.Metadata.link.Goals as goal

pub unreachable-requires : goal.unreachable-requires
unreachable-requires c =
    let v = the_view c.self.inside in
    let may = subst (MayLink c.args.left c.args.right) (sym c.self.view_is) c.requires in
    first_is_some is_free v.axioms may.slot FreeAxiom may.free refl (ap (position is_free) (sym c.as_slice.ensures.value) ∙ (sym c.free_slot.ensures ∙ c.in_default.is))

may : (c : In-Some) → MayLink c.args.left c.args.right (the_view c.self.inside)
may c = subst (MayLink c.args.left c.args.right) (sym c.self.view_is) c.requires

place : (c : In-Some) → position is_free (the_view c.self.inside).axioms ≡ Some c.in-Some.slot
place c = ap (position is_free) (sym c.as_slice.ensures.value) ∙ (sym c.free_slot.ensures ∙ c.in-Some.is)

below : (c : In-Some) → c.in-Some.slot < (the_view c.self.inside).limits.props
below c = omega (arith, first_no_later is_free (the_view c.self.inside).axioms (may c).slot c.in-Some.slot FreeAxiom (may c).free refl (place c), (may c).below)

pub index_mut-requires : goal.index_mut-requires
index_mut-requires c =
    omega (arith, axiom_within (the_view c.self.inside).limits c.in-Some.slot (below (goal.at.index_mut-requires c).In-Some), c.self.invariant.sound.axiom_count)

pub add-requires-clause-p : goal.add-requires-clause-p
add-requires-clause-p c =
    let side = ap is_some (may (goal.at.add-requires-clause-p c).In-Some).is_left in
    omega (arith, named_below (the_view c.self.inside) c.self.invariant.sound c.args.left side, c.self.invariant.links.props)

pub add-requires-clause-q : goal.add-requires-clause-q
add-requires-clause-q c =
    let side = ap is_some (may (goal.at.add-requires-clause-q c).In-Some).is_right in
    omega (arith, named_below (the_view c.self.inside) c.self.invariant.sound c.args.right side, c.self.invariant.links.props)

pub add-requires-clause-room : goal.add-requires-clause-room
add-requires-clause-room c = omega (arith, has_room (the_view c.self.inside) c.self.invariant.sound c.self.inside.taxonomy c.self.invariant.links)

pub unreachable-requires-in_default-add : goal.unreachable-requires-in_default-add
unreachable-requires-in_default-add c =
    link_refused (the_view c.self.inside) c.self.inside.taxonomy c.self.invariant c.args.left c.args.right (may (goal.at.unreachable-requires-in_default-add c).In-Some) _ c.add.result
    c.in_default-add.is c.add.ensures.present c.add.ensures.cycle c.add.ensures.not_absent

pub mark_axiom-requires-clause-slot : goal.mark_axiom-requires-clause-slot
mark_axiom-requires-clause-slot c = below (goal.at.mark_axiom-requires-clause-slot c).In-Some

abbrev now : goal.After-mark_axiom → Metadata
now c = record (the_view c.self.inside) { axioms = set (the_view c.self.inside).axioms c.in-Some.slot (Pair c.args.left c.args.right); marks = c.mark_axiom.new.marks }

made : (c : goal.After-mark_axiom) → AreHeld (now c) c.add.new.self × Links c.args.left c.args.right c.args.self.now (now c)
made c =
    let at = (goal.at.returns c).In-Some in
    let v = the_view c.self.inside in
    links c.args.self.now v c.self.inside.taxonomy c.add.new.self c.args.left c.args.right c.in-Some.slot (set v.axioms c.in-Some.slot (Pair c.args.left c.args.right)) c.mark_axiom.new.marks
    c.self.view_is c.self.invariant (may at) (below at) (free_place v.axioms c.in-Some.slot (place at))
    refl c.in-Ok.ensures.ok c.mark_axiom.ensures

pub invariant_of-self : goal.invariant_of-self
invariant_of-self c = (made c).0

pub returns : goal.returns
returns c = record { links = (made c).1; sound = (made c).0.sound }
