use Rattle.lis_taxonomy.proofs.Searches.{meets_start, meets_step, meets_end}
use Rattle.lis_taxonomy.proofs.search.Search.meet_rights.Goals as goal

pub loop-place-init : goal.loop-place-init
loop-place-init c = meets_start c.args.edges.now c.args.self.now c.requires.order.0 c.requires.order.1 c.args.number c.place_of-place.result c.place_of-place.ensures

pub loop-place-preserved : goal.loop-place-preserved
loop-place-preserved c = rw c.meet.ensures (meets_step c.args.edges.now c.args.self.now c.requires.order.0 c.requires.order.1 c.args.number c.loop-place.self c.loop-place.place c.loop-place.invariant c.loop-place-test.true c.if-edges-place.true)

pub returns-else-edges-place : goal.returns-else-edges-place
returns-else-edges-place c = meets_end c.args.edges.now c.args.self.now c.requires.order.0 c.requires.order.1 c.args.number c.loop-place.self c.loop-place.place c.loop-place.invariant (λ lt. c.if-edges-place.false)
