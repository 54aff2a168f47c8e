use Rattle.std.proofs.Common.{arith, ap, filter, not, ◌∙◌}
use Rattle.std.proofs.lemmas.Grind.{common_steps}
use Rattle.std.proofs.lemmas.List.{take_all}
use Rattle.lis_words.specs.Words.{same_word}
use Rattle.lis_plain.proofs.made.words_but.Goals as goal

pub loop-held-preserved : goal.loop-held-preserved
loop-held-preserved c = grind (arith, common_steps) steps 2000000

pub returns : goal.returns
returns c = c.loop-held.invariant ∙ ap (filter (λ w. not (same_word w c.args.word.now))) (take_all c.loop-held.held-index c.args.words.now (omega (arith, c.loop-held-test.false, c.loop-held.auto.held-index-end)))
