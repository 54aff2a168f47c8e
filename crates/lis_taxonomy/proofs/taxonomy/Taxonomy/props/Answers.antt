use Rattle.std.proofs.Common.{subst}
use Rattle.lis_taxonomy.specs.Taxonomy.{IsAcyclic}
use Rattle.lis_taxonomy.proofs.Seen.{acyclic_seen, edges_in_range}
use Rattle.lis_taxonomy.proofs.taxonomy.Taxonomy.props.Goals as goal

pub returns-clause-acyclic : goal.returns-clause-acyclic
returns-clause-acyclic c = subst (λ t. IsAcyclic t) c.self.view_is (acyclic_seen c.self.inside.edges.items c.self.inside.props c.self.invariant.acyclic)

pub returns-clause-in_range : goal.returns-clause-in_range
returns-clause-in_range c = rw (← c.self.view_is) (edges_in_range c.self.inside.edges.items c.self.inside.props c.self.invariant.order)
