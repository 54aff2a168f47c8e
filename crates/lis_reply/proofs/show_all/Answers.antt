use Rattle.lis_reply.proofs.Showing.{shown_more}
use Rattle.lis_reply.proofs.show_all.Goals as goal

pub loop-place-preserved : goal.loop-place-preserved
loop-place-preserved g c =
    let e = c.in_ok-count.ensures in
    shown_more c.args.bytes.now _ c.loop-place.place c.in_ok-count.count c.loop-place.invariant e.call e.time e.began c.split_at.ensures.back e.count.1 e.cause.stays e.shown
