-- The text of a view, piece by piece.
use Rattle.std.specs.Prelude.{ℕ, ◌+◌, nat_lt, Bool, if◌then◌else◌, Option, Some, None, List, [], ◌∷◌, ◌++◌, codes}
use Rattle.std.specs.List.{flat_map}
use Rattle.lis_grammar.specs.Formula.{Formula}
use Rattle.lis_model.specs.Replies.{line}
use Rattle.lis_views.specs.Views.{numeral, pieces, piece_lines}

-- the mark of a run with its number; none if no line is hidden
abbrev pub mark_text : ℕ → ℕ → List ℕ
mark_text number hidden = if nat_lt 0 hidden then line (64 ∷ numeral number ++ 32 ∷ numeral hidden) else []

-- the number of the next run
abbrev pub next_number : ℕ → ℕ → ℕ
next_number number hidden = if nat_lt 0 hidden then number + 1 else number

abbrev pub shown_text : Option (List ℕ) → List ℕ
shown_text None = []
shown_text (Some text) = line (43 ∷ text)

abbrev pub end_text : Bool → List ℕ
end_text is_open = if is_open then line (codes "!") else []

-- the lines of a content's pieces, if the first run has this number
abbrev pub pieces_text : ℕ → List ℕ → List Formula → List ℕ
pieces_text number bytes place = flat_map line (piece_lines number (pieces bytes place))
