-- The value of a `Taxonomy` in contracts.
use Rattle.std.specs.Prelude.{◌≢◌, ℕ, ◌<◌, ◌*◌, Bool, IsTrue, nat_eq, List, [], refl}
use Rattle.std.specs.List.{list_any}
use Rattle.std.specs.declared.cmp.Ordering.{Ordering}
use Rattle.std.specs.Ordering.{nat_cmp, ordering_then}
use Rattle.std.specs.FinSet as set
use Rattle.std.specs.Coded.{Coded, code_by, coded×, coded_ℕ}
use Rattle.lis_bits.specs.Rows.{Rows, get}
use Rattle.lis_graph.specs.Graph as graph
use Rattle.lis_taxonomy.specs.declared.taxonomy.TheConstants.{EDGES_PER_PROP}

-- edges in the order of their left sides, and then of their right sides
abbrev pub pair_cmp : ℕ × ℕ → ℕ × ℕ → Ordering
pair_cmp a b = ordering_then (nat_cmp a.0 b.0) (nat_cmp a.1 b.1)

-- numbers below `props`, and the edges between them
pub record Taxonomy : Type 0 where
  pub props : ℕ
  pub edges : set.FinSet pair_cmp

-- a taxonomy is stored as the pair of its fields
abbrev pub taxonomy_code : Coded Taxonomy
taxonomy_code =
    code_by (ℕ × set.FinSet pair_cmp) (coded× coded_ℕ (set.code (coded× coded_ℕ coded_ℕ))) (λ t. (t.props, t.edges)) (λ p. record { props = p.0; edges = p.1 }) (λ _. refl)

-- no number has a link by itself
abbrev pub no_links : ℕ → List ℕ
no_links p = []

-- an edge leads from p to q
abbrev pub has_edge : Taxonomy → ℕ → ℕ → Bool
has_edge t p q = set.contains t.edges (p, q)

-- one of these edges leads to q
abbrev pub leads_to : List (ℕ × ℕ) → ℕ → Bool
leads_to edges q = list_any (λ e. nat_eq e.1 q) edges

abbrev pub edge_count : Taxonomy → ℕ
edge_count t = set.len t.edges

-- how many edges there is memory for
abbrev pub edge_room : ℕ → ℕ
edge_room props = EDGES_PER_PROP * props

-- a chain of edges leads from p to q; it may be empty
abbrev pub Entails : Taxonomy → ℕ → ℕ → Type 0
Entails t p q = graph.Entails no_links (set.items t.edges) p q

-- no chain of at least one edge leads from a number to itself
abbrev pub IsAcyclic : Taxonomy → Type 0
IsAcyclic t = graph.Acyclic no_links (set.items t.edges)

-- the test of `Entails`
unfoldable pub entails : Taxonomy → ℕ → ℕ → Bool
entails t p q = graph.has nat_eq (graph.up nat_eq nat_cmp no_links (set.items t.edges) p) q

-- one of these numbers entails q
abbrev pub any_entails : Taxonomy → List ℕ → ℕ → Bool
any_entails t numbers q = list_any (λ p. entails t p q) numbers

-- some other number that this one entails has its bit in the first row
abbrev pub LeadsToMarked : Taxonomy → ℕ → Rows → Type 0
LeadsToMarked t p marks = (q : ℕ) × (q < t.props) × (q ≢ p) × Entails t p q × IsTrue (get marks 0 q)

abbrev pub empty_taxonomy : ℕ → Taxonomy
empty_taxonomy props = record { props = props; edges = set.empty }

abbrev pub with_edge : Taxonomy → ℕ → ℕ → Taxonomy
with_edge t p q = record { props = t.props; edges = set.insert t.edges (p, q) }

abbrev pub without_edge : Taxonomy → ℕ → ℕ → Taxonomy
without_edge t p q = record { props = t.props; edges = set.remove t.edges (p, q) }
