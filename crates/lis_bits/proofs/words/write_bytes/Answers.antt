use Rattle.std.proofs.Common.{length, arith}
use Rattle.lis_bits.specs.Words.{words_bit}
use Rattle.lis_bits.proofs.Numbers.{bytes_are}
use Rattle.lis_bits.proofs.words.write_bytes.Goals as goal

pub returns : goal.returns
returns c =
    bytes_are c.loop-k.buf (length c.args.buf.now) (words_bit c.args.words.now) c.loop-k.auto.buf (λ j lt. c.loop-k.invariant j (omega arith))
