use Rattle.std.proofs.Common.{◌≡◌, ◌+◌, ◌++◌, take}
use Rattle.arrayvec.specs.ArrayVec.{array_vec_len}
use Rattle.lis_place.proofs.place.extend.Given as goal

abbrev pub invariant-loop-node : goal.invariant-loop-node
invariant-loop-node l = record {
  items : l.held.items ≡ l.fn.held.items ++ take l.node-index l.nodes;
  len : array_vec_len l.held ≡ array_vec_len l.fn.held + l.node-index;
}
