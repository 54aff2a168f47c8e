use Rattle.std.proofs.Common.{rules, tests}
use Rattle.std.proofs.lemmas.Iterator.Splits.{YieldsList-from_slice_split}
use Rattle.std.proofs.lemmas.Iterator.Search.{any_from_yields_List}
use Rattle.lis_words.specs.Words.{same_word}
use Rattle.lis_transducers.specs.Tokens.{is_between}
use Rattle.lis_cuts.proofs.truth.has_this_run.Goals as goal

pub returns : goal.returns
returns c =
    any_from_yields_List (λ run. same_word run c.args.value.now) _ _ _ c.any.ensures.ran
    (YieldsList-from_slice_split _ is_between c.args.text.now c.split.ensures.rest c.split.ensures.done c.split.ensures.closure (λ x b q. search (rules, tests)))
    (λ x b q k. search (rules, tests))
