use Rattle.std.proofs.Common.{arith}
use Rattle.lis_kept.proofs.Common.{rules, ◌≡◌, ◌∙◌, if◌then◌else◌, true, Some, set, refl, ap, subst, number_of, same_word_decides}
use Rattle.lis_kept.specs.Metadata.{Metadata}
use Rattle.lis_kept.specs.Links.{AreHeld}
use Rattle.lis_kept.specs.Sound.{AreSound}
use Rattle.lis_kept.specs.Changes.{Declares}
use Rattle.lis_kept.proofs.FewEdges.{has_room}
use Rattle.lis_kept.proofs.InArea.{few_properties}
use Rattle.lis_kept.proofs.OneWord.{Comes, added, number_then}
use Rattle.lis_kept.proofs.WordsChanged.{ordered_after, declares}
use Rattle.lis_kept.specs.contracts.metadata.Metadata.{the_view}
use Rattle.lis_kept.proofs.metadata.Metadata.declare_word.Goals.{After-put}
use Rattle.lis_kept.proofs.metadata.Metadata.declare_word.Goals as goal

come : (c : After-put) → Comes (the_view c.self.inside) c.args.word.now c.in-Ok.number c.add.new.self
come c = search (rules, added)

bits : (c : After-put) → c.put.new.self ≡ set c.self.inside.declared c.in-Ok.number true
bits c = c.put.ensures

pub insert_test-requires-clause-few : goal.insert_test-requires-clause-few
insert_test-requires-clause-few c = omega (arith, few_properties c.self.inside.limits c.self.invariant.sound.range, c.self.invariant.links.props)

pub insert_test-requires-clause-ordered : goal.insert_test-requires-clause-ordered
insert_test-requires-clause-ordered c =
    let there = (goal.at.insert_test-requires-clause-ordered c).After-put in
    ordered_after (the_view c.self.inside) c.self.inside.taxonomy c.self.invariant c.requires.form (come there) (bits there)

pub insert_test-requires-clause-room : goal.insert_test-requires-clause-room
insert_test-requires-clause-room c = has_room (the_view c.self.inside) c.self.invariant.sound c.self.inside.taxonomy c.self.invariant.links

abbrev now : goal.After-mark_property → Metadata
now c = record (the_view c.self.inside) { dict = c.add.new.self; declared = c.put.new.self; marks = c.mark_property.new.marks }

made : (c : goal.After-mark_property) → AreHeld (now c) c.insert_test.new.taxonomy × Declares c.args.word.now c.args.self.now (now c)
made c =
    let there = (goal.at.returns c).After-put in
    declares (the_view c.self.inside) c.self.inside.taxonomy c.self.invariant c.requires.form (come there) (bits there)
    c.insert_test.new.taxonomy c.insert_test.ensures
    c.mark_property.new.marks c.mark_property.ensures c.args.self.now c.self.view_is

pub invariant_of-self : goal.invariant_of-self
invariant_of-self c = (made c).0

pub returns : goal.returns
returns c =
    let come_there = come (goal.at.returns c).After-put in
    record {
      declares = (made c).1;
      number =
          number_then (the_view c.self.inside) c.self.invariant.sound come_there c.args.word.now
          ∙ ap (λ b. if b then Some c.in-Ok.number else number_of c.self.inside.dict c.args.word.now) ((same_word_decides c.args.word.now c.args.word.now).1 refl);
      was_sound = subst AreSound c.self.view_is c.self.invariant.sound;
      sound = (made c).0.sound;
    }
