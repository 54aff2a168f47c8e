use Rattle.std.proofs.Common.{ℕ, ◌-◌, ◌<◌, ◌≤◌, length, get_or}
use Rattle.lis_journal.specs.declared.stage.Staged.{Staged}
use Rattle.lis_journal.proofs.stage.find.Given as goal

abbrev pub invariant-loop-low : goal.invariant-loop-low
invariant-loop-low l = record {
  in_order : l.low ≤ l.high;
  in_range : l.high ≤ length l.staged;
  below : (j : ℕ) (d : Staged) → j < l.low → (get_or l.staged j d).home < l.n;
  above : (j : ℕ) (d : Staged) → l.high ≤ j → j < length l.staged → l.n ≤ (get_or l.staged j d).home;
}

abbrev pub decreases-loop-low : goal.decreases-loop-low
decreases-loop-low l = l.high - l.low
