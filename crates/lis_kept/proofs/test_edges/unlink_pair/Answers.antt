use Rattle.lis_kept.proofs.TestChains.{no_more, pair_unlinked, unlinked_ordered}
use Rattle.lis_kept.proofs.test_edges.unlink_pair.Goals as goal

pub returns-clause-few : goal.returns-clause-few
returns-clause-few c = no_more c.args.taxonomy.now c.remove.new.self c.in-Some.from c.in-Some-to.to c.remove.result c.remove.ensures.ok c.remove.ensures.err

pub returns-clause-unlinked : goal.returns-clause-unlinked
returns-clause-unlinked c =
    let facts = c.remove.ensures in
    rw (c.in-Some.is, c.in-Some-to.is) (pair_unlinked c.args.taxonomy.now c.remove.new.self c.in-Some.from c.in-Some-to.to c.remove.result facts.ok facts.err facts.only facts.absent)

pub returns-clause-ordered : goal.returns-clause-ordered
returns-clause-ordered c = unlinked_ordered c.args.dict.now c.args.from c.args.to c.args.taxonomy.now c.remove.new.self (returns-clause-unlinked c) c.requires.ordered
