use Rattle.lis_store.proofs.Common.{◌∙◌, sym, subst, length, flat_map, nodes_of, assigned_at, leb-false}
use Rattle.lis_store.specs.Assigning.{node_tags, Takes}
use Rattle.lis_store.proofs.Assigned.{too_many, takes_all}
use Rattle.lis_store.proofs.assigning.assigned.Goals as goal

pub returns-then-not-put_place-clause-words : goal.returns-then-not-put_place-clause-words
returns-then-not-put_place-clause-words c =
    too_many c.args.place.now c.args.tags.now c.new-words.result.items c.put_place.new.words.items c.requires c.new-words.ensures
    (subst (λ b. Takes (flat_map node_tags (nodes_of c.args.place.now)) c.new-words.result.items c.put_place.new.words.items b) c.if-not-put_place.true c.put_place.ensures)

pub returns-then-not-put_words-clause-words : goal.returns-then-not-put_words-clause-words
returns-then-not-put_words-clause-words c =
    let first = subst (λ b. Takes (flat_map node_tags (nodes_of c.args.place.now)) c.new-words.result.items c.put_place.new.words.items b) c.if-not-put_place.false c.put_place.ensures in
    let all = takes_all c.args.place.now c.args.tags.now c.new-words.result.items c.put_place.new.words.items c.requires c.new-words.ensures
    c.as_slice.result.now c.put_words.new.words.items c.put_words.result c.as_slice.ensures.words first c.put_words.ensures in
    leb-false (length (assigned_at c.args.place.now c.args.tags.now)) 16 (sym all.0 ∙ c.if-not-put_words.true)

pub returns-clause-words : goal.returns-clause-words
returns-clause-words c =
    let first = subst (λ b. Takes (flat_map node_tags (nodes_of c.args.place.now)) c.new-words.result.items c.put_place.new.words.items b) c.if-not-put_place.false c.put_place.ensures in
    let all = takes_all c.args.place.now c.args.tags.now c.new-words.result.items c.put_place.new.words.items c.requires c.new-words.ensures
    c.as_slice.result.now c.put_words.new.words.items c.put_words.result c.as_slice.ensures.words first c.put_words.ensures in
    all.1 c.if-not-put_words.false
