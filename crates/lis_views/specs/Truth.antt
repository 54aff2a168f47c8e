-- When a formula holds of a line. Which words a line has is this project's own.
use Rattle.std.specs.Prelude.{ℕ, ◌==◌, ◌||◌, nat_le, Bool, if◌then◌else◌, List, [], ◌∷◌, ◌++◌, length, map, filter, codes, IsTrue}
use Rattle.std.specs.List.{list_all}
use Rattle.lis_transducers.specs.Bytes.{past, begins_with}
use Rattle.lis_transducers.specs.Tokens.{tokens}
use Rattle.lis_grammar.specs.Formula.{Formula}
use Rattle.lis_model.specs.Table.{Entry}
use Rattle.lis_model.specs.Listing.{holds_all}
use Rattle.lis_words.specs.Bytes.{is_blank}

-- space, tab or CR
abbrev pub is_bare : ℕ → Bool
is_bare b = is_blank b || (b == 13)

-- `empty` or `text`
abbrev pub kind_of : List ℕ → List ℕ
kind_of text = if list_all is_bare text then codes "empty" else codes "text"

-- the first byte that is no space, tab or CR is #
abbrev pub is_directive : List ℕ → Bool
is_directive text = begins_with 35 (past is_bare text)

abbrev pub line_kinds : List ℕ → List (List ℕ)
line_kinds text = kind_of text ∷ (if is_directive text then codes "directive" ∷ [] else [])

abbrev pub is_short : List ℕ → Bool
is_short run = nat_le (length run) 55

-- the longest runs of plain bytes, except those that make no word after `word:`
abbrev pub short_runs : List ℕ → List (List ℕ)
short_runs text = filter is_short (tokens text)

-- a head and the words that have it, if there are any
abbrev pub with_head : List ℕ → List (List ℕ) → List (List ℕ)
with_head head [] = []
with_head head (value ∷ values) = head ∷ map (λ v. head ++ v) (value ∷ values)

-- the words of a line
abbrev pub line_words : List ℕ → List (List ℕ)
line_words text = with_head (codes "line:") (line_kinds text) ++ with_head (codes "word:") (short_runs text)

-- a line as what formulas are true of: it has these words, and as many bytes as its text
abbrev pub line_entry : List ℕ → Entry
line_entry text = record { name = []; size = length text; words = line_words text }

-- the steps of a formula hold of a line as they hold of a file
abbrev pub line_holds : List Formula → List ℕ → Bool
line_holds place text = holds_all place (line_entry text)

abbrev pub LineHolds : List Formula → List ℕ → Type 0
LineHolds place text = IsTrue (line_holds place text)
