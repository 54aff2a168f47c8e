use Rattle.lis_store.proofs.Common.{subst, flat_map, nodes_of}
use Rattle.lis_store.specs.Assigning.{node_tags, Takes}
use Rattle.lis_store.proofs.Retagged.{too_many_moved, moved_are}
use Rattle.lis_store.proofs.retagging.retagged.Goals as goal

pub returns-then-not-put_place-clause-words : goal.returns-then-not-put_place-clause-words
returns-then-not-put_place-clause-words c set =
    let there = c.args.there.now in let kept = c.without_tags-moved.result.items in
    too_many_moved c.args.here.now there c.args.words.now kept c.nodes.result.now c.requires.here c.requires.there c.nodes.ensures.nodes c.without_tags-moved.ensures.words set
    c.put_place.new.words.items (subst (λ b. Takes (flat_map node_tags (nodes_of there)) kept c.put_place.new.words.items b) c.if-not-put_place.true c.put_place.ensures)

pub returns-clause-words : goal.returns-clause-words
returns-clause-words c set =
    let there = c.args.there.now in let kept = c.without_tags-moved.result.items in
    moved_are c.args.here.now there c.args.words.now kept c.nodes.result.now c.requires.here c.requires.there c.nodes.ensures.nodes c.without_tags-moved.ensures.words set
    c.put_place.new.words.items (subst (λ b. Takes (flat_map node_tags (nodes_of there)) kept c.put_place.new.words.items b) c.if-not-put_place.false c.put_place.ensures)
