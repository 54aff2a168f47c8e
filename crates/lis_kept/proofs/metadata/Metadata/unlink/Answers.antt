use Rattle.std.proofs.Common.{arith}
use Rattle.lis_kept.proofs.Common.{◌≡◌, Some, slice_get, ◌∙◌, refl, sym, subst, set, FreeAxiom, Pair}
use Rattle.lis_kept.specs.Linking.{MayUnlink, Unlinks}
use Rattle.lis_kept.specs.Metadata.{Metadata}
use Rattle.lis_kept.specs.Links.{AreHeld}
use Rattle.lis_kept.specs.Sound.{IsSoundAxiom}
use Rattle.lis_kept.proofs.Formed.{named_below}
use Rattle.lis_kept.proofs.AxiomSlots.{pair_found, pair_placed}
use Rattle.lis_kept.proofs.AxiomsChanged.{unlink_missed, unlinks}
use Rattle.lis_kept.specs.contracts.metadata.Metadata.{the_view}
use Rattle.lis_kept.proofs.metadata.Metadata.unlink.Goals.{In-Some}
use Rattle.lis_kept.proofs.metadata.Metadata.unlink.Goals as goal

pub unreachable-requires : goal.unreachable-requires
unreachable-requires c =
    let v = the_view c.self.inside in
    let may = subst (MayUnlink c.args.left c.args.right) (sym c.self.view_is) c.requires in
    pair_found v.axioms _ c.args.left c.args.right c.as_slice.ensures.value may.there (sym c.slot_of_pair.ensures ∙ c.in_default.is)

may : (c : In-Some) → MayUnlink c.args.left c.args.right (the_view c.self.inside)
may c = subst (MayUnlink c.args.left c.args.right) (sym c.self.view_is) c.requires

at : (c : In-Some) → slice_get (the_view c.self.inside).axioms c.in-Some.slot ≡ Some (Pair c.args.left c.args.right)
at c =
    pair_placed (the_view c.self.inside).axioms _ c.args.left c.args.right c.in-Some.slot c.as_slice.ensures.value
    (sym c.slot_of_pair.ensures ∙ c.in-Some.is)

sides : (c : In-Some) → IsSoundAxiom (the_view c.self.inside) c.in-Some.slot c.args.left c.args.right
sides c = c.self.invariant.sound.axioms c.in-Some.slot c.args.left c.args.right (at c)

pub remove-requires-clause-p : goal.remove-requires-clause-p
remove-requires-clause-p c =
    omega (arith, named_below (the_view c.self.inside) c.self.invariant.sound c.args.left (sides (goal.at.remove-requires-clause-p c).In-Some).left, c.self.invariant.links.props)

pub remove-requires-clause-q : goal.remove-requires-clause-q
remove-requires-clause-q c =
    omega (arith, named_below (the_view c.self.inside) c.self.invariant.sound c.args.right (sides (goal.at.remove-requires-clause-q c).In-Some).right, c.self.invariant.links.props)

pub unreachable-requires-in_default-remove : goal.unreachable-requires-in_default-remove
unreachable-requires-in_default-remove c =
    unlink_missed (the_view c.self.inside) c.self.inside.taxonomy c.self.invariant c.args.left c.args.right (may (goal.at.unreachable-requires-in_default-remove c).In-Some) c.remove.result
    c.remove.ensures.absent (c.in_default-remove.is ∙ c.in_default-remove.ensures.only)

pub mark_axiom-requires-clause-slot : goal.mark_axiom-requires-clause-slot
mark_axiom-requires-clause-slot c = (sides (goal.at.mark_axiom-requires-clause-slot c).In-Some).below

abbrev now : goal.After-mark_axiom → Metadata
now c = record (the_view c.self.inside) { axioms = set (the_view c.self.inside).axioms c.in-Some.slot FreeAxiom; marks = c.mark_axiom.new.marks }

made : (c : goal.After-mark_axiom) → AreHeld (now c) c.remove.new.self × Unlinks c.args.left c.args.right c.args.self.now (now c)
made c =
    let there = (goal.at.returns c).In-Some in
    let v = the_view c.self.inside in
    unlinks c.args.self.now v c.self.inside.taxonomy c.remove.new.self c.args.left c.args.right c.in-Some.slot (set v.axioms c.in-Some.slot FreeAxiom) c.mark_axiom.new.marks
    c.self.view_is c.self.invariant (may there) (at there) refl
    c.in-Ok.ensures.ok c.mark_axiom.ensures

pub invariant_of-self : goal.invariant_of-self
invariant_of-self c = (made c).0

pub returns : goal.returns
returns c = record { unlinks = (made c).1; sound = (made c).0.sound }
