use Rattle.std.proofs.Common.{◌++◌, sym, ap, ◌∙◌}
use Rattle.lis_place.proofs.Kept.{not_kept, spelled_by, place_by}
use Rattle.lis_place.proofs.place.Place.of.Goals as goal

pub returns-then-not-are_place-clause-nodes : goal.returns-then-not-are_place-clause-nodes
returns-then-not-are_place-clause-nodes c = not_kept c.args.nodes.now (sym c.are_place.ensures ∙ c.if-not-are_place.true)

pub returns-clause-nodes : goal.returns-clause-nodes
returns-clause-nodes c =
    let same = c.extend.ensures ∙ ap (λ xs. xs ++ c.args.nodes.now) c.new-held.ensures in
    spelled_by c.args.nodes.now c.extend.new.held.items same (sym c.are_place.ensures ∙ c.if-not-are_place.false)

pub returns-clause-place : goal.returns-clause-place
returns-clause-place c =
    let same = c.extend.ensures ∙ ap (λ xs. xs ++ c.args.nodes.now) c.new-held.ensures in
    place_by c.args.nodes.now c.extend.new.held.items same (sym c.are_place.ensures ∙ c.if-not-are_place.false)
