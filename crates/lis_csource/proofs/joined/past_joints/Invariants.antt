use Rattle.std.proofs.Common.{◌≡◌, ◌≤◌, length}
use Rattle.lis_transducers.specs.Joined.{joined}
use Rattle.lis_csource.proofs.joined.past_joints.Given as goal

abbrev pub invariant-loop-rest : goal.invariant-loop-rest
invariant-loop-rest l = record {
  same : joined l.rest ≡ joined l.bytes;
  within : length l.rest ≤ length l.bytes;
}

abbrev pub decreases-loop-rest : goal.decreases-loop-rest
decreases-loop-rest l = length l.rest
