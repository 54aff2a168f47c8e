use Rattle.lis_open.proofs.Common.{arith}
use Rattle.lis_model.proofs.Ranges.{wide_limits, blocks_some}
use Rattle.lis_kept.proofs.InArea.{few_files, few_blocks}
use Rattle.lis_open.proofs.files.no_files.Goals as goal

pub new-requires : goal.new-requires
new-requires c = omega (arith, few_files c.args.limits.now c.requires)

pub new-requires-2-clause-some : goal.new-requires-2-clause-some
new-requires-2-clause-some c = blocks_some c.args.limits.now.blocks (wide_limits c.args.limits.now c.requires).blocks

pub new-requires-2-clause-few : goal.new-requires-2-clause-few
new-requires-2-clause-few c = omega (arith, few_blocks c.args.limits.now c.requires)
