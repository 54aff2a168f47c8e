use Rattle.lis_open.proofs.Once.{next_free, marking_on}
use Rattle.lis_open.proofs.files.mark_all.Goals as goal

pub mark-requires : goal.mark-requires
mark-requires c =
    let l = c.loop-block in
    let next = next_free c.args.map.now l.map c.args.blocks.now l.block-index c.loop-block-test.true l.invariant in
    record { within = next.0; free = next.1 }

pub loop-block-preserved : goal.loop-block-preserved
loop-block-preserved c =
    let l = c.loop-block in
    marking_on c.args.map.now l.map c.args.blocks.now l.block-index c.loop-block-test.true l.invariant c.mark.new.self c.mark.ensures.marked
