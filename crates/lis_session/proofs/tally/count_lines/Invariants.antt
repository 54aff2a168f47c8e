use Rattle.std.specs.Prelude.{◌≡◌, ◌+◌, length}
use Rattle.lis_session.proofs.tally.count_lines.Given as goal

abbrev pub invariant-loop-line : goal.invariant-loop-line
invariant-loop-line l = l.count + length l.listing ≡ length l.fn.listing

abbrev pub decreases-loop-line : goal.decreases-loop-line
decreases-loop-line l = length l.listing
