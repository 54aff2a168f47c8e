use Rattle.std.proofs.Common.{◌∙◌, arith}
use Rattle.lis_journal.proofs.Headers.{rises_step}
use Rattle.lis_journal.proofs.header.rise.Goals as goal

pub loop-k-preserved : goal.loop-k-preserved
loop-k-preserved c =
    c.loop-k.invariant ∙ rises_step c.args.layout.blocks c.loop-k.last c.word-home.result c.loop-k.k c.args.count c.args.header.now (omega arith) c.word-home.ensures c.if-home-last.false c.if-home-layout.false
