use Rattle.std.proofs.Common.{sym}
use Rattle.lis_table.proofs.PlaceWords.{place_of_others, place_of_words}
use Rattle.lis_table.proofs.tags.place_words.Goals as goal

pub returns-then-not-are_conjuncts : goal.returns-then-not-are_conjuncts
returns-then-not-are_conjuncts c = place_of_others c.args.place.now c.nodes-nodes.result.now c.nodes-nodes.ensures.nodes (sym c.if-not-are_conjuncts.ensures)

pub returns : goal.returns
returns c =
    place_of_words c.args.place.now c.nodes-nodes.result.now c.in_ok-words.words.items c.nodes-nodes.ensures.nodes (sym c.if-not-are_conjuncts.ensures) c.in_ok-words.ensures
