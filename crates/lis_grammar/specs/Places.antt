-- Places, which are lists of steps within limits, and what a text makes of a place.
use Rattle.std.specs.Prelude.{ℕ, ◌+◌, ◌-◌, ◌^◌, ◌<◌, ◌≤◌, nat_lt, nat_le, Bool, ◌&&◌, if◌then◌else◌, Option, Some, None, List, [], ◌∷◌, ◌++◌, length, sum_by, codes, IsTrue}
use Rattle.std.specs.List.{list_all}
use Rattle.lis_limits.specs.declared.TheConstants.{MAX_FORMULA, MAX_NODES}
use Rattle.lis_words.specs.Words.{is_word, same_word}
use Rattle.lis_grammar.specs.Formula.{Formula, steps_words}
use Rattle.lis_grammar.specs.Formula.Formula.{Has, SizeAtLeast, SizeBelow, Negation, Both, Either}
use Rattle.lis_grammar.specs.Machine.{text_steps}
use Rattle.lis_grammar.specs.Printing.{printed}

-- how many nodes a tree has
abbrev pub tree_nodes : Formula → ℕ
tree_nodes (Has word) = 1
tree_nodes (SizeAtLeast n) = 1
tree_nodes (SizeBelow n) = 1
tree_nodes (Negation f) = tree_nodes f + 1
tree_nodes (Both f g) = tree_nodes f + tree_nodes g + 1
tree_nodes (Either f g) = tree_nodes f + tree_nodes g + 1

-- the nodes of the place's formula, which is the conjunction of its steps: those of the steps, and one for each joint between two steps
abbrev pub place_nodes : List Formula → ℕ
place_nodes steps = sum_by tree_nodes steps + (length steps - 1)

-- words are words, and the numbers of tests have at most 12 digits
abbrev pub IsFit : Formula → Type 0
IsFit (Has word) = IsTrue (is_word word)
IsFit (SizeAtLeast n) = n < 10 ^ 12
IsFit (SizeBelow n) = n < 10 ^ 12
IsFit (Negation f) = IsFit f
IsFit (Both f g) = IsFit f × IsFit g
IsFit (Either f g) = IsFit f × IsFit g

abbrev pub AreFit : List Formula → Type 0
AreFit [] = Unit {0}
AreFit (step ∷ steps) = IsFit step × AreFit steps

-- the steps are a place
pub record IsPlace (steps : List Formula) : Type 0 where
  pub nodes : place_nodes steps ≤ MAX_NODES
  pub bytes : length (printed steps) ≤ MAX_FORMULA
  pub fit : AreFit steps

-- the same as a test

abbrev pub is_fit : Formula → Bool
is_fit (Has word) = is_word word
is_fit (SizeAtLeast n) = nat_lt n (10 ^ 12)
is_fit (SizeBelow n) = nat_lt n (10 ^ 12)
is_fit (Negation f) = is_fit f
is_fit (Both f g) = is_fit f && is_fit g
is_fit (Either f g) = is_fit f && is_fit g

unfoldable pub is_place : List Formula → Bool
is_place steps =
    nat_le (place_nodes steps) MAX_NODES && nat_le (length (printed steps)) MAX_FORMULA && list_all is_fit steps

-- what a text makes of a place
pub data Resolution : Type 0 where
  NewPlace : List Formula → Resolution
  BeyondLimits : Resolution
  -- the text is no formula
  Unreadable : Resolution

abbrev pub without_last : List Formula → List Formula
without_last [] = []
without_last (step ∷ []) = []
without_last (step ∷ more ∷ steps) = step ∷ without_last (more ∷ steps)

abbrev pub within_limits : List Formula → Resolution
within_limits steps = if is_place steps then NewPlace steps else BeyondLimits

-- the steps of a path from a place: after the place's own steps, or from the root
abbrev pub steps_from : List Formula → Bool → List Formula → List Formula
steps_from place rooted steps = if rooted then steps else place ++ steps

abbrev pub resolved_path : List Formula → Option (Bool × List Formula) → Resolution
resolved_path place None = Unreadable
resolved_path place (Some path) =
    if is_place path.1 then within_limits (steps_from place path.0 path.1) else BeyondLimits

-- the text `..` leads to the place without its last step; any other text is read as a formula, and leads from the root or from the place
unfoldable pub resolved : List Formula → List ℕ → Resolution
resolved place text =
    if same_word text (codes "..") then NewPlace (without_last place)
    else if nat_lt MAX_FORMULA (length text) then BeyondLimits
    else resolved_path place (text_steps text)

abbrev pub path_words : Option (Bool × List Formula) → List (List ℕ)
path_words None = []
path_words (Some path) = steps_words path.1

-- the words that a formula text names; none if the text is no formula
unfoldable pub text_words : List ℕ → List (List ℕ)
text_words text = path_words (text_steps text)
