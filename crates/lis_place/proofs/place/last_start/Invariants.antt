use Rattle.std.proofs.Common.{◌≡◌, ◌+◌, ◌≤◌, length, take, reverse}
use Rattle.lis_place.specs.Steps.{before_trees}
use Rattle.lis_place.proofs.place.last_start.Given as goal

abbrev pub invariant-loop-wanted : goal.invariant-loop-wanted
invariant-loop-wanted l = record {
  inside : l.at ≤ length l.nodes;
  few : l.wanted + l.at ≤ length l.nodes + 1;
  before : before_trees l.wanted (reverse (take l.at l.nodes)) ≡ before_trees 1 (reverse l.nodes);
}

abbrev pub decreases-loop-wanted : goal.decreases-loop-wanted
decreases-loop-wanted l = l.at
