use Rattle.lis_open.proofs.Common.{arith}
use Rattle.lis_kept.proofs.InArea.{few_ahead}
use Rattle.lis_open.proofs.checks.read_bits.Goals as goal

pub overflow_add-bitmap_start : goal.overflow_add-bitmap_start
overflow_add-bitmap_start g c = omega (arith, c.bitmap_start.ensures, c.requires.there, few_ahead c.args.limits.now c.requires.readable.range)
