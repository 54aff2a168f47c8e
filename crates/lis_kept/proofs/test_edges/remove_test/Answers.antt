use Rattle.lis_kept.proofs.TestChains.{order_around}
use Rattle.lis_kept.proofs.test_edges.remove_test.Goals as goal

pub link_pair-requires-clause-weaker : goal.link_pair-requires-clause-weaker
link_pair-requires-clause-weaker c =
    order_around c.args.dict.now c.args.declared.now c.args.number c.neighbour-stronger.result c.neighbour-weaker.result c.neighbour-stronger.ensures.neighbour c.neighbour-weaker.ensures.neighbour
