use Rattle.lis_content.proofs.Taking.{giving_on}
use Rattle.lis_content.proofs.content.drop_file.Goals as goal

pub loop-n-preserved : goal.loop-n-preserved
loop-n-preserved c =
    giving_on c.args.map.now c.loop-n.map c.give.new.self c.args.blocks.now c.loop-n.n-index c.loop-n-test.true c.loop-n.invariant c.give.ensures.given c.give.ensures.more
