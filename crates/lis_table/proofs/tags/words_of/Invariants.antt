use Rattle.std.proofs.Common.{◌≡◌, take}
use Rattle.std.specs.List.{flat_map}
use Rattle.lis_place.specs.Nodes.{node_words}
use Rattle.lis_model.specs.Sets.{set_of}
use Rattle.lis_table.proofs.tags.words_of.Given as goal

abbrev pub invariant-loop-node : goal.invariant-loop-node
invariant-loop-node l = l.words.items ≡ set_of (flat_map node_words (take l.node-index l.nodes))
