use Rattle.std.proofs.Common.{◌≡◌, ◌≤◌, [], length, take}
use Rattle.std.specs.List.{fold}
use Rattle.lis_table.specs.Truth.{with_value}
use Rattle.lis_table.proofs.truth.values_of.Given as goal

abbrev pub invariant-loop-node : goal.invariant-loop-node
invariant-loop-node g l = (l.values ≡ fold (with_value (g.D.Described.entry l.described)) [] (take l.node-index l.nodes)) × (length l.values ≤ l.node-index)
