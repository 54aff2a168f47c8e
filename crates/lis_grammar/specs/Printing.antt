-- How formulas and places are printed.
use Rattle.std.specs.Prelude.{ℕ, List, [], ◌∷◌, ◌++◌, codes}
use Rattle.std.specs.Fmt.{decimal}
use Rattle.lis_words.specs.Bytes.{bar_byte}
use Rattle.lis_grammar.specs.Formula.{Formula}
use Rattle.lis_grammar.specs.Formula.Formula.{Has, SizeAtLeast, SizeBelow, Negation, Both, Either}

-- a word as its bytes, a number without leading zeros, and parentheses around each `|` and each `/`
abbrev pub printed_tree : Formula → List ℕ
printed_tree (Has word) = word
printed_tree (SizeAtLeast n) = codes "size>=" ++ decimal n
printed_tree (SizeBelow n) = codes "size<" ++ decimal n
printed_tree (Negation f) = 33 ∷ printed_tree f
printed_tree (Both f g) = 40 ∷ ((printed_tree f ++ 47 ∷ printed_tree g) ++ 41 ∷ [])
printed_tree (Either f g) = 40 ∷ ((printed_tree f ++ bar_byte ∷ printed_tree g) ++ 41 ∷ [])

-- each step after the slash that joins it
abbrev pub printed_behind : List Formula → List ℕ
printed_behind [] = []
printed_behind (step ∷ steps) = (47 ∷ printed_tree step) ++ printed_behind steps

-- a place: its steps joined by `/`, or `/` if it has none
unfoldable pub printed : List Formula → List ℕ
printed [] = 47 ∷ []
printed (step ∷ steps) = printed_tree step ++ printed_behind steps

-- a place as a text that reads to the same steps from the root
abbrev pub printed_rooted : List Formula → List ℕ
printed_rooted [] = 47 ∷ []
printed_rooted (step ∷ steps) = 47 ∷ printed (step ∷ steps)
