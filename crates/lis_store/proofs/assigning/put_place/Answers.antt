use Rattle.lis_store.proofs.Common.{false, ap, subst, arith, flat_map}
use Rattle.lis_store.specs.Assigning.{node_tags, Takes}
use Rattle.lis_store.proofs.Assigned.{takes_stop}
use Rattle.lis_store.proofs.assigning.put_place.Goals as goal

pub returns-then-not-put_node : goal.returns-then-not-put_node
returns-then-not-put_node c =
    let nodes = c.nodes-node-items.result.now in
    let old = c.args.words.now.items in
    let new = c.put_node.new.words.items in
    let fits = c.if-not-put_node.true in
    let stopped = subst (λ b. Takes (node_tags c.node-item.result) c.loop-node.words.items new b) fits c.put_node.ensures in
    subst (λ ws. Takes ws old new false) (ap (flat_map node_tags) c.nodes-node-items.ensures.nodes)
    (takes_stop node_tags nodes c.loop-node.node-index c.node-item.result (omega (arith, c.loop-node-test.true, c.loop-node.auto.node-index-end)) c.node-item.is old c.loop-node.words.items new c.loop-node.invariant stopped)
