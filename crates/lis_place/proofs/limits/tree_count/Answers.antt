use Rattle.lis_place.proofs.Kept.{trees_of}
use Rattle.lis_place.proofs.limits.tree_count.Goals as goal

pub returns-in-Some : goal.returns-in-Some
returns-in-Some c = trees_of c.args.nodes.now c.in-Some.tally c.requires c.in-Some.ensures.value
