use Rattle.std.proofs.Common.{arith}
use Rattle.lis_kept.proofs.Common.{◌≡◌, ◌∙◌, ◌==◌, Some, None, is_some, IsSome, sym, ap, subst, word_of}
use Rattle.lis_kept.specs.Metadata.{Metadata}
use Rattle.lis_kept.specs.Edges.{without_edge_to}
use Rattle.lis_kept.specs.Forgetting.{MayGo}
use Rattle.lis_kept.specs.Sound.{AreSound}
use Rattle.lis_kept.specs.Links.{AreHeld}
use Rattle.lis_kept.specs.Passes.{ForgetsWhere}
use Rattle.lis_kept.proofs.Formed.{named_below}
use Rattle.lis_kept.proofs.WordsChanged.{head_below, edge_to_head, forgets, forgets_none}
use Rattle.lis_kept.specs.contracts.metadata.Metadata.{the_view}
use Rattle.lis_kept.proofs.metadata.Metadata.forget.Goals.{In-Some}
use Rattle.lis_kept.proofs.metadata.Metadata.forget.Goals as goal

there : (c : In-Some) → word_of c.self.inside.dict c.args.number ≡ Some c.in-Some.word
there c = sym c.word_of.ensures ∙ c.in-Some.is

may : (c : In-Some) → MayGo c.args.number (the_view c.self.inside)
may c =
    let R : Metadata → Type 0 = λ k. IsSome (word_of k.dict c.args.number) → MayGo c.args.number k in
    subst R (sym c.self.view_is) c.requires (ap is_some (there c))

pub returns-in_default : goal.returns-in_default
returns-in_default c =
    let P : Metadata → Type 0 = λ k. word_of k.dict c.args.number ≡ None in
    record {
      forgets = forgets_none c.args.self.now c.args.number (subst P c.self.view_is (sym c.word_of.ensures ∙ c.in_default.is));
      sound = subst AreSound c.self.view_is c.self.invariant.sound;
    }

pub unlink_head-requires-clause-number : goal.unlink_head-requires-clause-number
unlink_head-requires-clause-number c =
    omega (arith, named_below (the_view c.self.inside) c.self.invariant.sound c.args.number (ap is_some (there (goal.at.unlink_head-requires-clause-number c).In-Some)), c.self.invariant.links.props)

pub unlink_head-requires-clause-head : goal.unlink_head-requires-clause-head
unlink_head-requires-clause-head c =
    head_below (the_view c.self.inside) c.self.inside.taxonomy c.self.invariant c.in-Some.word c.head_number-head.result c.head_number-head.ensures

pub unlink_head-requires-clause-there : goal.unlink_head-requires-clause-there
unlink_head-requires-clause-there c =
    let at = (goal.at.unlink_head-requires-clause-there c).In-Some in
    edge_to_head (the_view c.self.inside) c.self.inside.taxonomy c.self.invariant (there at) (may at) c.head_number-head.result c.head_number-head.ensures

pub mark_property-requires-clause-number : goal.mark_property-requires-clause-number
mark_property-requires-clause-number c = named_below (the_view c.self.inside) c.self.invariant.sound c.args.number (ap is_some (there (goal.at.mark_property-requires-clause-number c).In-Some))

abbrev now : goal.After-mark_property → Metadata
now c = record (the_view c.self.inside) { dict = c.remove.new.self; marks = c.mark_property.new.marks }

made : (c : goal.After-mark_property) → AreHeld (now c) c.unlink_head.new.taxonomy × ForgetsWhere (λ n. c.args.number == n) 1 c.args.self.now (now c)
made c =
    let at = (goal.at.returns c).In-Some in
    forgets (the_view c.self.inside) c.self.inside.taxonomy c.self.invariant (there at) (may at) c.args.self.now c.unlink_head.new.taxonomy c.remove.new.self c.mark_property.new.marks
    c.self.view_is c.remove.ensures.gone (c.unlink_head.ensures ∙ ap (without_edge_to c.self.inside.taxonomy c.args.number) c.head_number-head.ensures) c.mark_property.ensures

pub invariant_of-self : goal.invariant_of-self
invariant_of-self c = (made c).0

pub returns : goal.returns
returns c = record { forgets = (made c).1; sound = (made c).0.sound }
