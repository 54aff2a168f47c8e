use Rattle.std.proofs.Common.{arith}
use Rattle.lis_model.proofs.Ranges.{wide_limits, few_limits, props_whole}
use Rattle.lis_eval.proofs.scratch.Scratch.new.Goals as goal

pub new-requires-3-clause-whole_words : goal.new-requires-3-clause-whole_words
new-requires-3-clause-whole_words c = props_whole c.args.limits.now.props (wide_limits c.args.limits.now c.requires).props

pub new-requires-3-clause-few : goal.new-requires-3-clause-few
new-requires-3-clause-few c = omega (arith, (few_limits c.args.limits.now c.requires).props)

pub new-requires-4-clause-few : goal.new-requires-4-clause-few
new-requires-4-clause-few c = omega (arith, (few_limits c.args.limits.now c.requires).props)
