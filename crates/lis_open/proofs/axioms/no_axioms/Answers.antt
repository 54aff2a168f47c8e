use Rattle.lis_open.proofs.Common.{arith, few_properties}
use Rattle.lis_open.proofs.axioms.no_axioms.Goals as goal

pub new-requires : goal.new-requires
new-requires c = omega (arith, few_properties c.args.limits.now c.requires)
