use Rattle.lis_store.proofs.Common.{◌≡◌, ◌-◌, ◌≤◌}
use Rattle.lis_taxonomy.specs.Search.{is_found}
use Rattle.lis_store.proofs.NumbersFound.{found_below}
use Rattle.lis_store.proofs.finding.numbers_found.Given as goal

-- those so far that are found
abbrev pub invariant-loop-number : goal.invariant-loop-number
invariant-loop-number g l = (l.numbers.items ≡ found_below (is_found l.search) l.start) × (l.start ≤ 1048576)

abbrev pub decreases-loop-number : goal.decreases-loop-number
decreases-loop-number g l = 1048576 - l.start
