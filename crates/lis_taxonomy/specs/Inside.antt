-- The lists of a taxonomy and of a search, and what the functions over them do. No public clause cites this module.
use Rattle.std.specs.Prelude.{◌≡◌, ◌≢◌, ℕ, ◌+◌, ◌*◌, ◌<◌, ◌≤◌, ◌↔◌, ◌⊎◌, Bool, false, IsTrue, List, length, count_by, slice_index, slice_index_or}
use Rattle.std.specs.FinSet as set
use Rattle.lis_limits.specs.declared.TheConstants.{V3_MAX_PROPS}
use Rattle.lis_bits.specs.Rows.{Rows, get}
use Rattle.lis_graph.specs.Graph as graph
use Rattle.lis_taxonomy.specs.Search.{is_found}
use Rattle.lis_taxonomy.specs.Taxonomy.{Taxonomy, no_links, pair_cmp, edge_room}

-- the edge at a place of the list
abbrev pub edge_at : List (ℕ × ℕ) → ℕ → ℕ × ℕ
edge_at edges k = slice_index_or edges k (0, 0)

-- the rank of an edge in the order: by its left side, and then by its right side
abbrev pub rank : ℕ × ℕ → ℕ
rank e = e.0 * V3_MAX_PROPS + e.1

-- edges between numbers below `props`, each once, in the order of their ranks
pub record AreInOrder (edges : List (ℕ × ℕ)) (props : ℕ) : Type 0 where
  pub few : props ≤ V3_MAX_PROPS
  pub left : (k : ℕ) → k < length edges → (edge_at edges k).0 < props
  pub right : (k : ℕ) → k < length edges → (edge_at edges k).1 < props
  pub rising : (i j : ℕ) → i < j → j < length edges → rank (edge_at edges i) < rank (edge_at edges j)

-- how many of these edges come before the edge from p to q
pub record IsPlace (edges : List (ℕ × ℕ)) (p q place : ℕ) : Type 0 where
  pub within : place ≤ length edges
  pub before : (k : ℕ) → k < place → rank (edge_at edges k) < rank (p, q)
  pub after : (k : ℕ) → place ≤ k → k < length edges → rank (p, q) ≤ rank (edge_at edges k)

-- the edge from p to q is not there, and this is the place that it would have
pub record IsGap (edges : List (ℕ × ℕ)) (p q place : ℕ) : Type 0 where
  pub at : IsPlace edges p q place
  pub absent : (k : ℕ) → k < length edges → edge_at edges k ≢ (p, q)

-- the value of the edges in contracts
abbrev pub seen : List (ℕ × ℕ) → ℕ → Taxonomy
seen edges props = record { props = props; edges = set.from_list edges }

-- each number to which an edge leads is marked
pub record AreEntered (edges : List (ℕ × ℕ)) (entered : List Bool) : Type 0 where
  pub size : length entered ≡ V3_MAX_PROPS
  pub each : (k : ℕ) → k < length edges → IsTrue (slice_index_or entered (edge_at edges k).1 false)

-- what the fields of a taxonomy keep: the edges have no cycle, and there is memory for all for which there is room
pub record IsSoundTaxonomy (edges : List (ℕ × ℕ)) (entered : List Bool) (props capacity : ℕ) : Type 0 where
  pub order : AreInOrder edges props
  pub marked : AreEntered edges entered
  pub acyclic : graph.Acyclic no_links edges
  pub count : set.len (set.from_list {R = pair_cmp} edges) ≡ length edges
  pub memory : edge_room props ≤ capacity

-- what the fields of a search keep: just the found numbers are marked, and each is found once
pub record IsSoundSearch (numbers : List ℕ) (marks : List Bool) (capacity : ℕ) : Type 0 where
  pub size : length marks ≡ V3_MAX_PROPS
  pub memory : V3_MAX_PROPS ≤ capacity
  pub marked : (q : ℕ) → slice_index_or marks q false ≡ is_found numbers q
  pub once : count_by (λ mark. mark) marks ≡ length numbers

-- the numbers to which edges lead from this one came to those that were found
pub record MeetsRights (edges : List (ℕ × ℕ)) (old new : List ℕ) (number : ℕ) : Type 0 where
  pub longer : length old ≤ length new
  pub kept : (k : ℕ) → k < length old → slice_index new k ≡ slice_index old k
  pub all : (k : ℕ) → k < length edges → (edge_at edges k).0 ≡ number → IsTrue (is_found new (edge_at edges k).1)
  pub only : (q : ℕ) → IsTrue (is_found new q)
      → IsTrue (is_found old q) ⊎ ((k : ℕ) × (k < length edges) × (edge_at edges k ≡ (number, q)))

-- just the numbers are found to which chains of edges lead from these
abbrev pub IsSearched : List (ℕ × ℕ) → List ℕ → List ℕ → Type 0
IsSearched edges starts found =
    (q : ℕ) → IsTrue (is_found found q) ↔ ((p : ℕ) × IsTrue (is_found starts p) × graph.Entails no_links edges p q)

-- a chain of edges leads from the number to another one whose bit is true in the first row
abbrev pub ChainToMarked : List (ℕ × ℕ) → ℕ → Rows → Type 0
ChainToMarked edges p marks = (q : ℕ) × (q < marks.bits) × (q ≢ p) × graph.Entails no_links edges p q × IsTrue (get marks 0 q)
