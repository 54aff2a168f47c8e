-- What crates above need to know of a taxonomy's value.
use Rattle.std.proofs.Common.{◌≡◌, ℕ, Decides, nat_eq, [], eq-eqb}
use Rattle.std.specs.Ordering.{nat_cmp}
use Rattle.std.specs.FinSet as set
use Rattle.std.proofs.lemmas.Bool.{eqb-true}
use Rattle.std.proofs.lemmas.Map.Lookups.{exact_unsigned}
use Rattle.lis_graph.specs.Graph.{IsOrdered}
use Rattle.lis_graph.proofs.Graph.{up_decides}
use Rattle.lis_graph.proofs.Members.{among_from_contains}
use Rattle.lis_taxonomy.specs.Taxonomy.{Taxonomy, Entails, entails, no_links}

pub nat_decides : (x y : ℕ) → Decides (nat_eq x y) (x ≡ y)
nat_decides x y = (eqb-true x y, eq-eqb x y)

pub no_links_ordered : IsOrdered no_links
no_links_ordered = record { joined = λ p q r h k. absurd (among_from_contains [] q h); apart = λ p h. absurd (among_from_contains [] p h) }

-- the test of entailment is whether a chain of edges leads there
pub entails_decides : (t : Taxonomy) (p q : ℕ) → Decides (entails t p q) (Entails t p q)
unfolding entails
entails_decides t p q = up_decides nat_eq nat_cmp no_links nat_decides exact_unsigned no_links_ordered (set.items t.edges) p q
