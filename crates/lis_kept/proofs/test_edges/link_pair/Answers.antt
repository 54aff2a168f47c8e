use Rattle.lis_kept.proofs.Common.{◌≡◌, true}
use Rattle.lis_kept.specs.TestEdges.{is_test_link}
use Rattle.lis_kept.proofs.TestChains.{one_more, pair_linked, linked_ordered}
use Rattle.lis_kept.proofs.test_edges.link_pair.Goals as goal

pub returns-clause-few : goal.returns-clause-few
returns-clause-few c = one_more c.args.taxonomy.now c.add.new.self c.in-Some.from c.in-Some-to.to c.add.result c.add.ensures.ok c.add.ensures.err

pub returns-clause-linked : goal.returns-clause-linked
returns-clause-linked c =
    let weaker : is_test_link c.args.dict.now c.args.declared.now c.in-Some.from c.in-Some-to.to ≡ true = rw c.in-Some-to.is at (rw c.in-Some.is at c.requires.weaker) in
    let facts = c.add.ensures in
    rw (c.in-Some.is, c.in-Some-to.is) (pair_linked c.args.dict.now c.args.declared.now c.args.taxonomy.now c.add.new.self c.in-Some.from c.in-Some-to.to c.add.result c.requires.ordered
    facts.present facts.cycle facts.not_absent facts.ok facts.err weaker)

pub returns-clause-ordered : goal.returns-clause-ordered
returns-clause-ordered c =
    linked_ordered c.args.dict.now c.args.declared.now c.args.from c.args.to c.args.taxonomy.now c.add.new.self (returns-clause-linked c) c.requires.weaker c.requires.ordered
