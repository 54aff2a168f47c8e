use Rattle.std.proofs.Common.{arith, ap, ◌++◌, ◌∙◌}
use Rattle.std.proofs.lemmas.Grind.{common_steps}
use Rattle.std.proofs.lemmas.List.{take_all}
use Rattle.lis_plain.proofs.table.push_copies.Goals as goal

pub loop-word-preserved : goal.loop-word-preserved
loop-word-preserved c = grind (arith, common_steps) steps 2000000

pub returns : goal.returns
returns c = c.loop-word.invariant ∙ ap (λ ws. c.args.words.now.items ++ ws) (take_all c.loop-word.word-index c.args.more.now (omega (arith, c.loop-word-test.false, c.loop-word.auto.word-index-end)))
