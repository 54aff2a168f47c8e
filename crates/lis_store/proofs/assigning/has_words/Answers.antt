use Rattle.lis_store.proofs.Common.{◌∙◌, ap, list_all}
use Rattle.lis_store.specs.Assigning.{is_conjunct}
use Rattle.lis_store.proofs.Assigned.{place_has_words}
use Rattle.lis_store.proofs.assigning.has_words.Goals as goal

pub returns : goal.returns
returns c = c.are_conjuncts.ensures ∙ (ap (list_all is_conjunct) c.nodes.ensures.nodes ∙ place_has_words c.args.place.now)
