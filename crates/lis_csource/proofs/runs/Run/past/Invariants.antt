use Rattle.std.proofs.Common.{◌≡◌, ◌≤◌, length}
use Rattle.lis_csource.specs.Runs.{past_run}
use Rattle.lis_csource.proofs.runs.Run.past.Given as goal

abbrev pub invariant-loop-byte : goal.invariant-loop-byte
invariant-loop-byte l = record {
  rest : past_run l.self l.rest ≡ past_run l.self l.bytes;
  within : length l.rest ≤ length l.bytes;
}

abbrev pub decreases-loop-byte : goal.decreases-loop-byte
decreases-loop-byte l = length l.rest
