-- The results for a formula text.
use Rattle.std.specs.Prelude.{◌≡◌, ℕ, ◌<◌, ◌≤◌, ◌⊎◌, Bool, false, Some, None, Result, Ok, Err, List, length}
use Rattle.lis_limits.specs.declared.TheConstants.{MAX_FORMULA}
use Rattle.lis_grammar.specs.Formula.{Formula}
use Rattle.lis_grammar.specs.Grammar.{Reads, IsBrokenAt}
use Rattle.lis_grammar.specs.Machine.{text_steps, broken_at}
use Rattle.lis_grammar.specs.Places.{IsPlace, is_place, Resolution}
use Rattle.lis_grammar.specs.Places.Resolution.{NewPlace, BeyondLimits, Unreadable}
use Rattle.lis_place.specs.declared.place.Path.{Path}
use Rattle.lis_formula.specs.declared.fault.FormulaFault.{FormulaFault}
use Rattle.lis_formula.specs.declared.fault.FormulaFault.TheVariants.{TooLarge, Syntax}

-- the text reads as no path
abbrev pub IsNoFormula : List ℕ → Type 0
IsNoFormula text = (rooted : Bool) (steps : List Formula) → Reads text rooted steps → ⊥

-- the text reads as a path whose steps are no place
pub record ReadsBeyond (text : List ℕ) : Type 0 where
  pub rooted : Bool
  pub steps : List Formula
  pub reads : Reads text rooted steps
  pub beyond : IsPlace steps → ⊥

-- By the grammar. Each text has one result, since it reads as at most one path.
abbrev pub ReadsTo : List ℕ → Result Path FormulaFault → Type 0
ReadsTo text (Ok path) = (length text ≤ MAX_FORMULA) × Reads text path.rooted path.place × IsPlace path.place
ReadsTo text (Err TooLarge) = (MAX_FORMULA < length text) ⊎ ReadsBeyond text
ReadsTo text (Err (Syntax k)) = (length text ≤ MAX_FORMULA) × IsNoFormula text × IsBrokenAt text k

-- the same by the functions that compute it
abbrev pub Computes : List ℕ → Result Path FormulaFault → Type 0
Computes text (Ok path) = text_steps text ≡ Some (path.rooted, path.place)
Computes text (Err TooLarge) = (MAX_FORMULA < length text) ⊎ ((path : Bool × List Formula) × (text_steps text ≡ Some path) × (is_place path.1 ≡ false))
Computes text (Err (Syntax k)) = (text_steps text ≡ None) × (k ≡ broken_at text)

-- the result for a text at a place
abbrev pub IsResolution : Resolution → Result (List Formula) FormulaFault → Type 0
IsResolution resolution (Ok place) = resolution ≡ NewPlace place
IsResolution resolution (Err TooLarge) = resolution ≡ BeyondLimits
IsResolution resolution (Err (Syntax k)) = resolution ≡ Unreadable
