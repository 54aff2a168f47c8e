use Rattle.std.proofs.Common.{arith, ap, ◌∙◌}
use Rattle.std.proofs.lemmas.Grind.{common_steps}
use Rattle.std.proofs.lemmas.List.{take_all}
use Rattle.std.specs.List.{fold}
use Rattle.lis_model.specs.Changes.{with_axiom}
use Rattle.lis_plain.proofs.axioms.insert_axioms.Goals as goal

pub loop-right-preserved : goal.loop-right-preserved
loop-right-preserved c = grind (arith, common_steps) steps 2000000

pub returns : goal.returns
returns c = c.loop-right.invariant ∙ ap (fold (λ kept q. with_axiom kept (c.args.left.now, q)) c.args.axioms.now.items) (take_all c.loop-right.right-index c.args.rights.now (omega (arith, c.loop-right-test.false, c.loop-right.auto.right-index-end)))
