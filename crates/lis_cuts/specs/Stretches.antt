-- Pieces in stretches: hidden texts, and the shown text after them.
use Rattle.std.specs.Prelude.{ℕ, Option, Some, None, List, [], ◌∷◌}
use Rattle.lis_views.specs.Views.{Piece}
use Rattle.lis_views.specs.Views.Piece.{Shown, Hidden}

-- the piece of some hidden texts; none if there are no texts
abbrev pub run_piece : List (List ℕ) → List Piece
run_piece [] = []
run_piece (text ∷ texts) = Hidden (text ∷ texts) ∷ []

abbrev pub shown_piece : Option (List ℕ) → List Piece
shown_piece None = []
shown_piece (Some text) = Shown text ∷ []
