use Rattle.std.proofs.Common.{arith}
use Rattle.lis_kept.proofs.Common.{◌∙◌, sym, ap, subst, is_some}
use Rattle.lis_kept.specs.Metadata.{Metadata}
use Rattle.lis_kept.specs.Links.{AreHeld}
use Rattle.lis_kept.specs.Undeclaring.{MayUndeclare, Undeclares}
use Rattle.lis_kept.proofs.FewEdges.{has_room}
use Rattle.lis_kept.proofs.Formed.{named_below}
use Rattle.lis_kept.proofs.InArea.{few_properties}
use Rattle.lis_kept.proofs.TestLinks.{tests_ordered}
use Rattle.lis_kept.proofs.WordLess.{undeclares}
use Rattle.lis_kept.specs.contracts.metadata.Metadata.{the_view}
use Rattle.lis_kept.proofs.metadata.Metadata.undeclare.Goals as goal

pub put-requires : goal.put-requires
put-requires c = omega (arith, named_below (the_view c.self.inside) c.self.invariant.sound c.args.number (ap is_some (sym c.word_of.ensures ∙ c.in-Some.is)), c.self.invariant.sound.bits)

pub remove_test-requires-clause-number : goal.remove_test-requires-clause-number
remove_test-requires-clause-number c = omega (arith, named_below (the_view c.self.inside) c.self.invariant.sound c.args.number (ap is_some (sym c.word_of.ensures ∙ c.in-Some.is)))

pub remove_test-requires-clause-few : goal.remove_test-requires-clause-few
remove_test-requires-clause-few c = omega (arith, few_properties c.self.inside.limits c.self.invariant.sound.range, c.self.invariant.links.props)

pub remove_test-requires-clause-ordered : goal.remove_test-requires-clause-ordered
remove_test-requires-clause-ordered c = tests_ordered (the_view c.self.inside) c.self.inside.taxonomy c.self.invariant

pub remove_test-requires-clause-room : goal.remove_test-requires-clause-room
remove_test-requires-clause-room c = omega (arith, has_room (the_view c.self.inside) c.self.invariant.sound c.self.inside.taxonomy c.self.invariant.links)

pub mark_property-requires-clause-number : goal.mark_property-requires-clause-number
mark_property-requires-clause-number c = named_below (the_view c.self.inside) c.self.invariant.sound c.args.number (ap is_some (sym c.word_of.ensures ∙ c.in-Some.is))

abbrev now : goal.After-mark_property → Metadata
now c = record (the_view c.self.inside) { dict = c.remove.new.self; declared = c.put.new.self; marks = c.mark_property.new.marks }

made : (c : goal.After-mark_property) → AreHeld (now c) c.remove_test.new.taxonomy × Undeclares c.args.number c.args.self.now (now c)
made c =
    undeclares c.args.self.now (the_view c.self.inside) c.self.inside.taxonomy c.remove_test.new.taxonomy c.self.view_is c.self.invariant (subst (MayUndeclare c.args.number) (sym c.self.view_is) c.requires)
    (sym c.word_of.ensures ∙ c.in-Some.is) c.remove.new.self c.put.new.self c.mark_property.new.marks c.remove.ensures.gone
    c.put.ensures c.remove_test.ensures c.mark_property.ensures

pub invariant_of-self : goal.invariant_of-self
invariant_of-self c = (made c).0

pub returns : goal.returns
returns c = record { undeclares = (made c).1; sound = (made c).0.sound }
