use Rattle.std.proofs.Common.{◌∙◌}
use Rattle.std.proofs.lemmas.List.{take_rest}
use Rattle.lis_words.proofs.Parts.{stem_is, value_is, none_behind, within}
use Rattle.lis_words.proofs.forms.split_at_colon.Goals as goal

pub split_at-requires : goal.split_at-requires
split_at-requires c = within c.args.bytes.now c.colon_place.result c.colon_place.ensures

pub returns-in-empty-clause-stem : goal.returns-in-empty-clause-stem
returns-in-empty-clause-stem c = c.split_at.ensures.front ∙ stem_is _ c.colon_place.result c.colon_place.ensures

pub returns-in-empty-clause-value : goal.returns-in-empty-clause-value
returns-in-empty-clause-value c =
    none_behind c.split_at.result.1.now c.in-empty.len_below ∙ value_is c.args.bytes.now _ c.colon_place.result c.colon_place.ensures c.split_at.ensures.back

pub returns-in-len1-up-clause-stem : goal.returns-in-len1-up-clause-stem
returns-in-len1-up-clause-stem c = c.split_at.ensures.front ∙ stem_is _ c.colon_place.result c.colon_place.ensures

pub returns-in-len1-up-clause-value : goal.returns-in-len1-up-clause-value
returns-in-len1-up-clause-value c =
    take_rest c.split_at.result.1.now 1 ∙ value_is c.args.bytes.now _ c.colon_place.result c.colon_place.ensures c.split_at.ensures.back
