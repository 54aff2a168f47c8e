use Rattle.std.proofs.Common.{arith}
use Rattle.std.proofs.lemmas.Grind.{common_steps}
use Rattle.lis_cuts.proofs.Cut.{last_alone, last_at}
use Rattle.lis_cuts.proofs.lines.last_line.Goals as goal

pub returns-in-None-clause-texts : goal.returns-in-None-clause-texts
returns-in-None-clause-texts c = last_alone c.args.bytes.now _ c.without_feed-trimmed.ensures.trimmed c.in-None.ensures (grind (arith, common_steps))

pub returns-in-Some-clause-texts : goal.returns-in-Some-clause-texts
returns-in-Some-clause-texts c =
    last_at c.args.bytes.now _ _ _ c.in-Some.end c.without_feed-trimmed.ensures.trimmed c.in-Some.ensures c.split_at.ensures.front c.split_at.ensures.back (grind (arith, common_steps))
