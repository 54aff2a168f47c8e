use Rattle.lis_store.proofs.Common.{◌≤◌, length, take}
use Rattle.lis_store.proofs.Assigned.{AreNumbersIn}
use Rattle.lis_store.proofs.placing.place_numbers.Given as goal

-- these are the numbers of the words of the nodes so far
abbrev pub invariant-loop-node : goal.invariant-loop-node
invariant-loop-node l = (length l.numbers.items ≤ l.node-index) × AreNumbersIn l.metadata (take l.node-index l.node-items) l.numbers.items
