use Rattle.lis_kept.proofs.Common.{◌≡◌, ◌≤◌, take, count_by}
use Rattle.lis_kept.specs.Linking.{is_filled}
use Rattle.lis_kept.proofs.linking.filled_count.Given as goal

-- those so far are counted
abbrev pub invariant-loop-slot : goal.invariant-loop-slot
invariant-loop-slot l = (l.count ≡ count_by is_filled (take l.slot-index l.axioms)) × (l.count ≤ l.slot-index)
