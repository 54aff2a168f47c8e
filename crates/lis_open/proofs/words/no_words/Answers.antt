use Rattle.lis_open.proofs.Common.{arith, few_properties}
use Rattle.lis_kept.proofs.InArea.{whole_properties}
use Rattle.lis_open.proofs.words.no_words.Goals as goal

pub new-requires : goal.new-requires
new-requires c = omega (arith, few_properties c.args.limits.now c.requires)

pub new-requires-2-clause-whole_words : goal.new-requires-2-clause-whole_words
new-requires-2-clause-whole_words c = whole_properties c.args.limits.now c.requires
