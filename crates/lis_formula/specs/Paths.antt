-- The results of reading a path.
use Rattle.std.specs.Prelude.{◌≡◌, ℕ, ◌==◌, Bool, false, not, Some, None, Result, Ok, Err, List, [], ◌∷◌}
use Rattle.lis_grammar.specs.Formula.{Formula}
use Rattle.lis_grammar.specs.Machine.{lived, path_steps}
use Rattle.lis_grammar.specs.Machine.Machine.{Wants}
use Rattle.lis_grammar.specs.Places.{IsPlace}
use Rattle.lis_place.specs.declared.place.Path.{Path}
use Rattle.lis_place.specs.Nodes.{nodes_of}
use Rattle.lis_formula.specs.declared.fault.FormulaFault.{FormulaFault}
use Rattle.lis_formula.specs.declared.fault.FormulaFault.TheVariants.{TooLarge, Syntax}
use Rattle.lis_formula.specs.declared.reader.Nodes.{Nodes}
use Rattle.lis_formula.specs.Walk.{first_64}

-- the text is a path, and this is kept of its nodes
abbrev pub IsPath : List ℕ → Nodes → Type 0
IsPath text kept = (steps : List Formula) × (path_steps text ≡ Some steps) × (kept ≡ first_64 (nodes_of steps))

-- the text is no path, and the machine reads k of its bytes
abbrev pub IsNoPath : List ℕ → ℕ → Type 0
IsNoPath text k = (path_steps text ≡ None) × (k ≡ lived (Wants [] []) text)

-- a text that isn't empty and does not begin with a slash
abbrev pub begins_here : List ℕ → Bool
begins_here [] = false
begins_here (b ∷ text) = not (b == 47)

-- what is kept of the nodes makes this path, or is that of no place
abbrev pub IsWhole : Bool → Nodes → Result Path FormulaFault → Type 0
IsWhole rooted kept (Ok path) =
    (path.rooted ≡ rooted) × IsPlace path.place × ((steps : List Formula) → kept ≡ first_64 (nodes_of steps) → path.place ≡ steps)
IsWhole rooted kept (Err TooLarge) = (steps : List Formula) → kept ≡ first_64 (nodes_of steps) → IsPlace steps → ⊥
IsWhole rooted kept (Err (Syntax k)) = ⊥
