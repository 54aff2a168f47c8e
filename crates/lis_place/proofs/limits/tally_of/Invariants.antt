use Rattle.std.proofs.Common.{◌≡◌, ◌*◌, ◌≤◌, drop}
use Rattle.lis_place.specs.Limits.{tally_after, no_tally}
use Rattle.lis_place.proofs.limits.tally_of.Given as goal

abbrev pub invariant-loop-node : goal.invariant-loop-node
invariant-loop-node l = record {
  rest : tally_after l.tally (drop l.node-index l.nodes) ≡ tally_after no_tally l.nodes;
  trees : l.tally.trees ≤ l.node-index;
  bytes : l.tally.bytes ≤ 60 * l.node-index;
}
