-- How far the loops of a search have come. No public clause cites this module.
use Rattle.std.specs.Prelude.{◌≡◌, ◌≢◌, ℕ, ◌<◌, ◌≤◌, ◌⊎◌, false, IsTrue, List, ◌∷◌, [], length, slice_index}
use Rattle.lis_bits.specs.Rows.{Rows, get}
use Rattle.lis_graph.specs.Graph as graph
use Rattle.lis_taxonomy.specs.Search.{is_found}
use Rattle.lis_taxonomy.specs.Taxonomy.{no_links}
use Rattle.lis_taxonomy.specs.Inside.{edge_at}

-- the edges before `place` that lead from the number are done
pub record MeetsTo (edges : List (ℕ × ℕ)) (old now : List ℕ) (number place : ℕ) : Type 0 where
  pub longer : length old ≤ length now
  pub kept : (k : ℕ) → k < length old → slice_index now k ≡ slice_index old k
  pub all : (k : ℕ) → k < place → k < length edges → (edge_at edges k).0 ≡ number → IsTrue (is_found now (edge_at edges k).1)
  pub only : (q : ℕ) → IsTrue (is_found now q)
      → IsTrue (is_found old q) ⊎ ((k : ℕ) × (k < length edges) × (edge_at edges k ≡ (number, q)))
  pub from_there : (k : ℕ) → place ≤ k → k < length edges → number ≤ (edge_at edges k).0

-- the starts are found, chains of edges lead from them to all that is found, and where the first `done` of the numbers lead is found
pub record SearchesTo (edges : List (ℕ × ℕ)) (starts now : List ℕ) (done : ℕ) : Type 0 where
  pub within : done ≤ length now
  pub start : (p : ℕ) → IsTrue (is_found starts p) → IsTrue (is_found now p)
  pub entailed : (q : ℕ) → IsTrue (is_found now q) → (p : ℕ) × IsTrue (is_found starts p) × graph.Entails no_links edges p q
  pub closed : (i k : ℕ) → i < done → k < length edges → (edge_at edges k).0 ≡ slice_index now i
      → IsTrue (is_found now (edge_at edges k).1)

-- and none of these but the start has its bit in the first row
pub record LeadsTo (edges : List (ℕ × ℕ)) (marks : Rows) (number : ℕ) (now : List ℕ) (done : ℕ) : Type 0 where
  pub searches : SearchesTo edges (number ∷ []) now done
  pub unmarked : (k : ℕ) → k < done → slice_index now k ≢ number → get marks 0 (slice_index now k) ≡ false
