use Rattle.std.proofs.Common.{◌*◌}
use Rattle.lis_bits.specs.Words.{HasBytes}
use Rattle.lis_bits.proofs.words.are_bytes.Given as goal

abbrev pub invariant-loop-k : goal.invariant-loop-k
invariant-loop-k l = HasBytes l.words l.bytes (8 * l.k)
