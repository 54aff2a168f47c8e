use Rattle.lis_kept.proofs.TestChains.{order_below, links_next}
use Rattle.lis_kept.proofs.test_edges.link_next.Goals as goal

pub link_pair-requires-clause-weaker : goal.link_pair-requires-clause-weaker
link_pair-requires-clause-weaker c = order_below c.args.dict.now c.args.declared.now c.args.number c.neighbour-weaker.result c.neighbour-weaker.ensures.neighbour

pub returns-clause-linked : goal.returns-clause-linked
returns-clause-linked c =
    links_next c.args.dict.now c.args.declared.now c.args.number c.requires.dict c.neighbour-weaker.result c.args.taxonomy.now c.link_pair.new.taxonomy c.neighbour-weaker.ensures.neighbour c.link_pair.ensures.linked
