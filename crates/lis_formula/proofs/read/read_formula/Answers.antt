use Rattle.std.proofs.Common.{arith}
use Rattle.lis_formula.proofs.Readings.{answers}
use Rattle.lis_formula.proofs.read.read_formula.Goals as goal

pub returns-clause-answers : goal.returns-clause-answers
returns-clause-answers c = answers c.args.text.now c.read_short.result (omega arith) c.read_short.ensures.computes c.read_short.ensures.place
