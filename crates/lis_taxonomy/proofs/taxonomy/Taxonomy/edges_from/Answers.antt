use Rattle.std.proofs.Common.{◌≤◌, arith}
use Rattle.lis_taxonomy.proofs.Seen.{in_turn, edges_between}
use Rattle.lis_taxonomy.proofs.taxonomy.Taxonomy.edges_from.Goals as goal

rises : (c : goal.After-deref-3) → c.place_of-start.result ≤ c.place_of-end.result
rises c =
    let m = c.self.inside in
    in_turn m.edges.items m.props c.self.invariant.order c.args.p c.place_of-start.result c.place_of-end.result (rw c.deref.ensures.value at c.place_of-start.ensures) (rw c.deref-2.ensures.value at c.place_of-end.ensures)

pub slice_bounds-result-count : goal.slice_bounds-result-count
slice_bounds-result-count c = rises c

pub slice_bounds-result-start : goal.slice_bounds-result-start
slice_bounds-result-start c = omega (arith, rises c)

pub returns : goal.returns
returns c =
    let m = c.self.inside in
    let shown = edges_between m.edges.items m.props c.self.invariant.order c.args.p c.place_of-start.result c.place_of-end.result (rw c.deref.ensures.value at c.place_of-start.ensures) (rw c.deref-2.ensures.value at c.place_of-end.ensures) in
    rw (← c.self.view_is, c.deref-3.ensures.value) shown
