use Rattle.std.proofs.Common.{◌≡◌, take}
use Rattle.std.specs.List.{flat_map}
use Rattle.lis_place.specs.Nodes.{node_words}
use Rattle.lis_table.proofs.moving.named_words.Given as goal

abbrev pub invariant-loop-node : goal.invariant-loop-node
invariant-loop-node l = l.words.items ≡ flat_map node_words (take l.node-index l.nodes)
