-- The value of a `Search` in contracts: the numbers that it found.
use Rattle.std.specs.Prelude.{ℕ, ◌<◌, ◌≤◌, Bool, nat_eq, List, ◌∷◌, [], ◌++◌, if◌then◌else◌, IsTrue}
use Rattle.lis_limits.specs.declared.TheConstants.{V3_MAX_PROPS}
use Rattle.lis_graph.specs.Graph.{has}

-- the number was found
abbrev pub is_found : List ℕ → ℕ → Bool
is_found numbers q = has nat_eq numbers q

-- the number comes at the end, unless it was found before
abbrev pub met : List ℕ → ℕ → List ℕ
met found q = if is_found found q then found else found ++ q ∷ []

-- the found numbers are below `props`
pub record AreBelow (props : ℕ) (found : List ℕ) : Type 0 where
  pub few : props ≤ V3_MAX_PROPS
  pub below : (n : ℕ) → IsTrue (is_found found n) → n < props
