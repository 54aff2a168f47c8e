use Rattle.lis_store.proofs.Common.{◌<◌, ◌≤◌, length, arith}
use Rattle.lis_store.proofs.Assigned.{numbers_next, numbers_all, not_all_declared, among_item}
use Rattle.lis_store.proofs.placing.place_numbers.Goals as goal

pub take_node-requires-clause-room : goal.take_node-requires-clause-room
take_node-requires-clause-room c =
    let nodes = c.nodes-node-items.result.now in
    let lt : c.loop-node.node-index < length nodes = omega (arith, c.loop-node-test.true, c.loop-node.auto.node-index-end) in
    omega (arith, lt, c.loop-node.invariant.0, c.nodes-node-items.ensures.few)

pub returns-then-not-take_node-clause-numbers : goal.returns-then-not-take_node-clause-numbers
returns-then-not-take_node-clause-numbers c =
    let nodes = c.nodes-node-items.result.now in
    let lt : c.loop-node.node-index < length nodes = omega (arith, c.loop-node-test.true, c.loop-node.auto.node-index-end) in
    not_all_declared c.args.metadata.now c.args.place.now nodes c.node-item.result c.loop-node.numbers.items c.take_node.new.numbers.items c.take_node.result c.requires.place c.nodes-node-items.ensures.nodes
    (among_item nodes c.loop-node.node-index c.node-item.result lt c.node-item.is) c.if-not-take_node.true c.take_node.ensures

pub loop-node-preserved : goal.loop-node-preserved
loop-node-preserved c =
    let nodes = c.nodes-node-items.result.now in
    let lt : c.loop-node.node-index < length nodes = omega (arith, c.loop-node-test.true, c.loop-node.auto.node-index-end) in
    numbers_next c.args.metadata.now nodes c.loop-node.node-index c.node-item.result lt c.node-item.is c.loop-node.numbers.items c.take_node.new.numbers.items c.take_node.result c.if-not-take_node.false
    c.loop-node.invariant.0 c.loop-node.invariant.1 c.take_node.ensures

pub returns-clause-numbers : goal.returns-clause-numbers
returns-clause-numbers c =
    let nodes = c.nodes-node-items.result.now in
    let end : length nodes ≤ c.loop-node.node-index = omega (arith, c.loop-node-test.false) in
    numbers_all c.args.metadata.now c.args.place.now nodes c.loop-node.node-index c.loop-node.numbers.items c.requires.place c.nodes-node-items.ensures.nodes end c.loop-node.invariant.1
