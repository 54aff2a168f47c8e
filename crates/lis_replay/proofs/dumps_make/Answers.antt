use Rattle.lis_replay.proofs.Whole.{dump_makes}
use Rattle.lis_replay.proofs.dumps_make.Goals as goal

pub returns : goal.returns
returns c s formed = dump_makes s formed
