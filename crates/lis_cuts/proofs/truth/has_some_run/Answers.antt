use Rattle.std.proofs.Common.{◌&&◌, List, rules, tests}
use Rattle.std.proofs.lemmas.Iterator.Splits.{YieldsList-from_slice_split}
use Rattle.std.proofs.lemmas.Iterator.Search.{any_from_yields_List}
use Rattle.lis_transducers.specs.Tokens.{is_between}
use Rattle.lis_views.specs.Truth.{is_short}
use Rattle.lis_words.specs.Bytes.{is_some_bytes}
use Rattle.lis_cuts.proofs.truth.has_some_run.Goals as goal

pub returns : goal.returns
returns c =
    any_from_yields_List (λ run. is_some_bytes run && is_short run) _ _ _ c.any.ensures.ran
    (YieldsList-from_slice_split _ is_between c.args.text.now c.split.ensures.rest c.split.ensures.done c.split.ensures.closure (λ x b q. search (rules, tests)))
    (λ x b q k. search (rules, tests))
