use Rattle.std.proofs.Common.{◌+◌, ◌*◌}
use Rattle.lis_bits.specs.Words.{HasBytes}
use Rattle.lis_bits.proofs.words.write_word.Given as goal

abbrev pub invariant-loop-i : goal.invariant-loop-i
invariant-loop-i l = HasBytes l.words l.buf (8 * l.k + l.i)
