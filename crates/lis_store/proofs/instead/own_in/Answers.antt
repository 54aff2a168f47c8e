use Rattle.lis_store.proofs.Common.{◌∙◌, ap, flat_map}
use Rattle.lis_store.specs.Drafts.{own_word}
use Rattle.lis_store.proofs.instead.own_in.Goals as goal

pub returns-clause-own : goal.returns-clause-own
returns-clause-own c = c.own_among.ensures.words ∙ ap (flat_map (own_word c.args.metadata.now)) c.numbers.ensures.numbers
