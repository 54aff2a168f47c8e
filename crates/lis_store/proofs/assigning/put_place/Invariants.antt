use Rattle.lis_store.proofs.Common.{true, take, flat_map}
use Rattle.lis_store.specs.Assigning.{node_tags, Takes}
use Rattle.lis_store.proofs.assigning.put_place.Given as goal

-- the words of the nodes so far are in the set
abbrev pub invariant-loop-node : goal.invariant-loop-node
invariant-loop-node l = Takes (flat_map node_tags (take l.node-index l.node-items)) l.initial.words.items l.words.items true
