use Rattle.std.proofs.Common.{◌≡◌, ◌++◌, length}
use Rattle.lis_csource.specs.Runs.{run_text}
use Rattle.lis_csource.proofs.runs.Run.text.Given as goal

abbrev pub invariant-loop-byte : goal.invariant-loop-byte
invariant-loop-byte l = l.text.items ++ run_text l.self l.rest ≡ l.head ++ run_text l.self l.bytes

abbrev pub decreases-loop-byte : goal.decreases-loop-byte
decreases-loop-byte l = length l.rest
