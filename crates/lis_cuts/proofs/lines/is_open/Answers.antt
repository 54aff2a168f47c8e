use Rattle.std.proofs.Common.{sym, arith}
use Rattle.lis_cuts.proofs.Cut.{open_last}
use Rattle.lis_cuts.proofs.lines.is_open.Goals as goal

pub returns-in-len1-up : goal.returns-in-len1-up
returns-in-len1-up c = sym (open_last c.args.bytes.now (omega arith))
