use Rattle.std.proofs.Common.{arith}
use Rattle.lis_memdisk.proofs.Picks.{picked_whole}
use Rattle.lis_memdisk.proofs.bytes.pick_bytes.Goals as goal

pub returns : goal.returns
returns c =
    picked_whole c.args.pick c.args.place c.args.bytes.now c.args.range.now c.loop-i.range c.requires.same_len (omega arith) (λ k lt. c.loop-i.invariant.done k (omega arith))
