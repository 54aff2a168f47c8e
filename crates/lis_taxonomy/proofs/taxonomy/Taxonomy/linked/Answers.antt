use Rattle.std.proofs.Common.{◌∙◌}
use Rattle.lis_taxonomy.proofs.Seen.{has_edge_found}
use Rattle.lis_taxonomy.proofs.taxonomy.Taxonomy.linked.Goals as goal

pub returns : goal.returns
returns c =
    let m = c.self.inside in
    let found = rw c.deref.ensures.value at c.find.ensures.found in
    let absent = rw c.deref.ensures.value at c.find.ensures.absent in
    rw (← c.self.view_is) (c.is_ok.ensures.value ∙ has_edge_found m.edges.items m.props c.args.p c.args.q c.find.result found absent)
