use Rattle.std.proofs.Common.{arith, ap, filter, not, ◌∙◌}
use Rattle.std.proofs.lemmas.Grind.{common_steps}
use Rattle.std.proofs.lemmas.List.{take_all}
use Rattle.lis_model.specs.Changes.{same_pair}
use Rattle.lis_plain.proofs.axioms.without_axiom.Goals as goal

pub loop-held-preserved : goal.loop-held-preserved
loop-held-preserved c = grind (arith, common_steps) steps 2000000

pub returns : goal.returns
returns c = c.loop-held.invariant ∙ ap (filter (λ p. not (same_pair p c.args.pair.now))) (take_all c.loop-held.held-index c.args.axioms.now (omega (arith, c.loop-held-test.false, c.loop-held.auto.held-index-end)))
