use Rattle.std.proofs.Common.{◌≡◌, arith}
use Rattle.lis_region.proofs.Slots.{made_more, sound_made}
use Rattle.lis_region.proofs.region.Region.new.Goals as goal

pub loop-number-preserved : goal.loop-number-preserved
loop-number-preserved g c =
    let made = made_more c.loop-number.slots.items c.loop-number.order.items c.loop-number.number c.args.width c.in_ok-new.field-0 c.in_ok-new.ensures.free c.in_ok-new.ensures.width c.loop-number.invariant in
    rw (c.in_ok-push.ensures.items, c.in_ok-push-2.ensures.items) made

pub invariant_of-result : goal.invariant_of-result
invariant_of-result g c =
    let all : c.loop-number.number ≡ c.args.frames = omega arith in
    rw (← all) (sound_made c.loop-number.slots.items c.loop-number.order.items c.loop-number.number c.args.width (omega arith) c.loop-number.invariant)
