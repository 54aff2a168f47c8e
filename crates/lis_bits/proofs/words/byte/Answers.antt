use Rattle.lis_bits.proofs.Numbers.{byte_is}
use Rattle.lis_bits.proofs.words.byte.Goals as goal

pub returns : goal.returns
returns c = byte_is c.args.words.now c.args.k
