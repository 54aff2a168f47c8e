use Rattle.lis_formula.proofs.Readings.{here_reads, here_breaks}
use Rattle.lis_formula.proofs.read.from_here.Goals as goal

pub returns-in-Ok-clause-computes : goal.returns-in-Ok-clause-computes
returns-in-Ok-clause-computes c = here_reads c.args.text.now c.in-Ok.kept c.whole.result c.requires.here c.in-Ok.ensures.path c.whole.ensures

pub returns-in-Err-clause-computes : goal.returns-in-Err-clause-computes
returns-in-Err-clause-computes c = here_breaks c.args.text.now c.in-Err.at c.requires.here c.in-Err.ensures.path
