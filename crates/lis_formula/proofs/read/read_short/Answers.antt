use Rattle.lis_formula.proofs.Readings.{nothing_read}
use Rattle.lis_formula.proofs.read.read_short.Goals as goal

pub returns-in-empty-clause-computes : goal.returns-in-empty-clause-computes
returns-in-empty-clause-computes c = nothing_read c.args.text.now c.in-empty.len_below
