use Rattle.std.proofs.Common.{length, arith}
use Rattle.lis_bits.proofs.Numbers.{bytes_are}
use Rattle.lis_ext.specs.Inside.{has_in}
use Rattle.lis_ext.proofs.by_list.write_bits.Goals as goal

pub returns : goal.returns
returns c =
    bytes_are c.loop-k.buf (length c.args.buf.now) (has_in c.args.lists.now c.args.prop) c.loop-k.auto.buf (λ j lt. c.loop-k.invariant j (omega arith))
