use Rattle.std.proofs.Common.{◌≡◌, ◌≤◌, false, length}
use Rattle.lis_transducers.specs.Joined.{joined}
use Rattle.lis_transducers.specs.Pieces.{after_literal}
use Rattle.lis_csource.proofs.pieces.past_literal.Given as goal

abbrev pub invariant-loop-byte : goal.invariant-loop-byte
invariant-loop-byte l = record {
  rest : after_literal l.close l.escaped (joined l.rest) ≡ after_literal l.close false (joined l.bytes);
  within : length l.rest ≤ length l.bytes;
}

abbrev pub decreases-loop-byte : goal.decreases-loop-byte
decreases-loop-byte l = length l.rest
