use Rattle.lis_store.proofs.Common.{◌∙◌, ap, list_all}
use Rattle.lis_store.specs.Placing.{is_plain_conjunct}
use Rattle.lis_store.proofs.Assigned.{plain_place}
use Rattle.lis_store.proofs.placing.has_plain_words.Goals as goal

pub returns : goal.returns
returns c = c.are_plain_conjuncts.ensures ∙ (ap (list_all is_plain_conjunct) c.nodes.ensures.nodes ∙ plain_place c.args.place.now)
