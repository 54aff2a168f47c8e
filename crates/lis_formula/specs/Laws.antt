-- The laws of formulas.
use Rattle.std.specs.Prelude.{◌≡◌, ◌↔◌, ℕ, Bool, true, Some, List, IsTrue}
use Rattle.lis_grammar.specs.Formula.{Formula}
use Rattle.lis_grammar.specs.Grammar.{Reads, IsBrokenAt}
use Rattle.lis_grammar.specs.Machine.{text_steps, broken_at}
use Rattle.lis_grammar.specs.Printing.{printed_rooted}
use Rattle.lis_grammar.specs.Places.{AreFit, IsPlace, is_place, resolved}
use Rattle.lis_grammar.specs.Places.Resolution.{NewPlace}

-- a text reads as at most one path
abbrev pub OneReading : Type 0
OneReading = (text : List ℕ) (rooted also : Bool) (steps more : List Formula) → Reads text rooted steps → Reads text also more
    → (rooted ≡ also) × (steps ≡ more)

-- a printed place with a slash in front, or the slash alone for the root, reads as a rooted path with the same steps
abbrev pub PrintedReads : Type 0
PrintedReads = (steps : List Formula) → IsPlace steps → Reads (printed_rooted steps) true steps

-- `text_steps` computes what the grammar says
abbrev pub StepsAreRead : Type 0
StepsAreRead = (text : List ℕ) (rooted : Bool) (steps : List Formula) → (text_steps text ≡ Some (rooted, steps)) ↔ Reads text rooted steps

-- `broken_at` computes the length of the longest prefix that begins some formula text
abbrev pub BreaksWhereSaid : Type 0
BreaksWhereSaid = (text : List ℕ) → IsBrokenAt text (broken_at text)

-- the words of a formula that reads are words, and its numbers have at most 12 digits
abbrev pub ReadsFit : Type 0
ReadsFit = (text : List ℕ) (rooted : Bool) (steps : List Formula) → Reads text rooted steps → AreFit steps

-- the test of a place and the record say the same
abbrev pub PlacesAreTested : Type 0
PlacesAreTested = (steps : List Formula) → IsTrue (is_place steps) ↔ IsPlace steps

-- what a text makes of a place is a place
abbrev pub ResolvedIsPlace : Type 0
ResolvedIsPlace = (place new : List Formula) (text : List ℕ) → IsPlace place → resolved place text ≡ NewPlace new → IsPlace new
