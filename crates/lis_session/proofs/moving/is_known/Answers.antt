use Rattle.std.proofs.Common.{ap, sym, is_some, ◌∙◌}
use Rattle.lis_dict.specs.Dict.{words}
use Rattle.lis_words.specs.Words.{has_word}
use Rattle.lis_place.specs.Nodes.{node_words}
use Rattle.std.specs.List.{list_all}
use Rattle.std.proofs.Math.Bool.{and-true}
use Rattle.lis_store.proofs.StoreSays.{numbered}
use Rattle.lis_session.proofs.moving.is_known.Goals as goal

pub returns-in-Word : goal.returns-in-Word
returns-in-Word c =
    let k = c.args.store.now.metadata in
    c.is_some.ensures ∙ ap is_some c.id_of.ensures ∙ sym (numbered k.dict c.in-Word.word) ∙ sym (and-true (has_word (words k.dict) c.in-Word.word))
    ∙ ap (λ node. list_all (has_word (words k.dict)) (node_words node)) (sym c.in-Word.is)
