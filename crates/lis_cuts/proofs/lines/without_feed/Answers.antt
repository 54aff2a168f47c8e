use Rattle.std.proofs.Common.{arith}
use Rattle.lis_cuts.proofs.Cut.{trimmed_open, trimmed_closed, trimmed_joined}
use Rattle.lis_cuts.proofs.lines.without_feed.Goals as goal

pub returns-then-last-eq10-clause-joined : goal.returns-then-last-eq10-clause-joined
returns-then-last-eq10-clause-joined c = trimmed_joined c.args.bytes.now _ (trimmed_closed c.args.bytes.now (omega arith) c.if-last-eq10.true)

pub returns-else-last-eq10-clause-trimmed : goal.returns-else-last-eq10-clause-trimmed
returns-else-last-eq10-clause-trimmed c = trimmed_open c.args.bytes.now (omega arith) c.if-last-eq10.false

pub returns-else-last-eq10-clause-joined : goal.returns-else-last-eq10-clause-joined
returns-else-last-eq10-clause-joined c = trimmed_joined c.args.bytes.now _ (trimmed_open c.args.bytes.now (omega arith) c.if-last-eq10.false)
