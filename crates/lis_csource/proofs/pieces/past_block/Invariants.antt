use Rattle.std.proofs.Common.{◌≡◌, ◌≤◌, length}
use Rattle.lis_transducers.specs.Joined.{joined}
use Rattle.lis_transducers.specs.Pieces.{after_block}
use Rattle.lis_csource.proofs.pieces.past_block.Given as goal

abbrev pub invariant-loop-byte : goal.invariant-loop-byte
invariant-loop-byte l = record {
  rest : after_block (joined l.rest) ≡ after_block (joined l.bytes);
  within : length l.rest ≤ length l.bytes;
}

abbrev pub decreases-loop-byte : goal.decreases-loop-byte
decreases-loop-byte l = length l.rest
