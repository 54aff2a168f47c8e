use Rattle.std.proofs.Common.{arith}
use Rattle.std.proofs.lemmas.Option.{IfSome_then}
use Rattle.lis_kept.proofs.Common.{◌≡◌, ◌∙◌, ◌<◌, ℕ, true, None, List, length, IsSome, sym, ap, subst, number_of, is_undeclared, is_valued, head_bytes}
use Rattle.lis_kept.specs.Metadata.{Metadata}
use Rattle.lis_kept.specs.Edges.{with_edge_to}
use Rattle.lis_kept.specs.Sound.{AreSound}
use Rattle.lis_kept.specs.Links.{AreHeld}
use Rattle.lis_kept.specs.Changes.{Learns}
use Rattle.lis_kept.proofs.FewEdges.{has_room}
use Rattle.lis_kept.proofs.OneWord.{Comes, added}
use Rattle.lis_kept.proofs.TestLinks.{none_to, none_from}
use Rattle.lis_kept.proofs.WordsChanged.{head_below, head_apart, learns_new, learns_there}
use Rattle.lis_kept.specs.contracts.metadata.Metadata.{the_view}
use Rattle.lis_kept.proofs.metadata.Metadata.learn.Goals.{In-Ok}
use Rattle.lis_kept.proofs.metadata.Metadata.learn.Goals as goal

record Premises (word : List ℕ) (k : Metadata) : Type 0 where
  form : number_of k.dict word ≡ None → is_undeclared word ≡ true
  headed : number_of k.dict word ≡ None → is_valued word ≡ true → IsSome (number_of k.dict (head_bytes word))
  room : number_of k.dict word ≡ None → length k.dict.entries < k.limits.props

premises : (c : In-Ok) → Premises c.args.word.now (the_view c.self.inside)
premises c = subst (Premises c.args.word.now) (sym c.self.view_is) (record { form = c.requires.form; headed = c.requires.headed; room = c.requires.room })

come : (c : In-Ok) → Comes (the_view c.self.inside) c.args.word.now c.in-Ok.number c.add.new.self
come c =
    let none = sym c.id_of.ensures ∙ c.in_default.is in
    added (the_view c.self.inside) c.args.word.now c.in-Ok.number c.add.new.self c.in-Ok.ensures none ((premises c).room none)

pub returns-in-Some : goal.returns-in-Some
returns-in-Some c =
    record {
      learns = learns_there c.args.self.now (the_view c.self.inside) c.self.inside.taxonomy c.args.word.now c.in-Some.number c.self.view_is c.self.invariant (sym c.id_of.ensures ∙ c.in-Some.is);
      sound = subst AreSound c.self.view_is c.self.invariant.sound;
    }

pub link_head-requires-clause-head : goal.link_head-requires-clause-head
link_head-requires-clause-head c =
    head_below (the_view c.self.inside) c.self.inside.taxonomy c.self.invariant c.args.word.now c.head_number-head.result c.head_number-head.ensures

pub link_head-requires-clause-apart : goal.link_head-requires-clause-apart
link_head-requires-clause-apart c =
    head_apart (the_view c.self.inside) c.self.invariant.sound c.args.word.now c.in-Ok.number c.head_number-head.result c.head_number-head.ensures
    (come (goal.at.link_head-requires-clause-apart c).In-Ok).free

pub link_head-requires-clause-to : goal.link_head-requires-clause-to
link_head-requires-clause-to c =
    let below = head_below (the_view c.self.inside) c.self.inside.taxonomy c.self.invariant c.args.word.now c.head_number-head.result c.head_number-head.ensures in
    let free = (come (goal.at.link_head-requires-clause-to c).In-Ok).free in
    IfSome_then c.head_number-head.result below (λ h lt. none_to (the_view c.self.inside) c.self.inside.taxonomy c.self.invariant c.in-Ok.number free)

pub link_head-requires-clause-from : goal.link_head-requires-clause-from
link_head-requires-clause-from c = none_from (the_view c.self.inside) c.self.inside.taxonomy c.self.invariant c.in-Ok.number (come (goal.at.link_head-requires-clause-from c).In-Ok).free

pub link_head-requires-clause-room : goal.link_head-requires-clause-room
link_head-requires-clause-room c = omega (arith, has_room (the_view c.self.inside) c.self.invariant.sound c.self.inside.taxonomy c.self.invariant.links)

abbrev now : goal.After-mark_property → Metadata
now c = record (the_view c.self.inside) { dict = c.add.new.self; marks = c.mark_property.new.marks }

made : (c : goal.After-mark_property) → AreHeld (now c) c.link_head.new.taxonomy × Learns c.args.word.now c.in-Ok.number c.args.self.now (now c)
made c =
    let there = (goal.at.returns c).In-Ok in
    let new = (come there).new in
    learns_new (the_view c.self.inside) c.self.inside.taxonomy c.self.invariant (come there) ((premises there).form new) ((premises there).headed new)
    c.mark_property.new.marks c.mark_property.ensures c.args.self.now c.link_head.new.taxonomy c.self.view_is
    (c.link_head.ensures ∙ ap (with_edge_to c.self.inside.taxonomy c.in-Ok.number) c.head_number-head.ensures)

pub invariant_of-self : goal.invariant_of-self
invariant_of-self c = (made c).0

pub returns : goal.returns
returns c = record { learns = (made c).1; sound = (made c).0.sound }
