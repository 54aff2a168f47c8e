use Rattle.std.proofs.Common.{◌≡◌, ◌+◌, ◌-◌, length, arith}
use Rattle.lis_slots.proofs.Putting.{put_between}
use Rattle.lis_slots.proofs.slots.overwrite.Goals as goal

pub returns : goal.returns
returns c =
    let n : c.args.at + length c.args.bytes.now - c.args.at ≡ length c.args.bytes.now = omega arith in
    rw c.copy_from_slice.ensures.after (put_between c.args.block.now c.args.at _ c.args.bytes.now n)
