-- The laws of parts of a file.
use Rattle.std.specs.Prelude.{◌≡◌, ℕ, not, List}
use Rattle.std.specs.List.{flat_map, filter}
use Rattle.lis_grammar.specs.Formula.{Formula}
use Rattle.lis_views.specs.Lines.{lines_of, IsCut}
use Rattle.lis_views.specs.Truth.{line_holds}
use Rattle.lis_views.specs.Views.{Piece, IsParted, pieces, texts_in, runs_of, view_lines, view_of}
use Rattle.lis_views.specs.Edits.{back_of}
use Rattle.lis_views.specs.Edits.Back.{Content}

-- each content has exactly one list of texts and flag
abbrev pub OneCut : Type 0
OneCut = (bytes : List ℕ) → IsCut bytes (lines_of bytes)

-- each content has exactly one list of pieces under a formula
abbrev pub OneParting : Type 0
OneParting = (bytes : List ℕ) (place : List Formula) → IsParted place (lines_of bytes).texts (pieces bytes place)
    × ((others : List Piece) → IsParted place (lines_of bytes).texts others → others ≡ pieces bytes place)

-- a view that is put back as it is leaves the bytes as they were
abbrev pub UnchangedStays : Type 0
UnchangedStays = (bytes : List ℕ) (place : List Formula) → back_of bytes place (view_of bytes place) ≡ Content bytes

-- The input is an edit of the view of these bytes, and these are the new ones: it is itself the view of some pieces.
pub record IsEdit (bytes : List ℕ) (place : List Formula) (input new : List ℕ) : Type 0 where
  pub edited : List Piece
  -- the lines of the input are the texts that these pieces show and the marks of their runs, and `!` if the new bytes are open at their end
  pub lines : (lines_of input).texts ≡ view_lines edited (lines_of new).is_open
  -- their runs are those of the view, in order
  pub runs : runs_of edited ≡ runs_of (pieces bytes place)
  -- and so, in sequence, the texts of which the formula does not hold
  pub hidden : flat_map (λ run. run) (runs_of edited) ≡ filter (λ text. not (line_holds place text)) (lines_of bytes).texts
  -- the new texts are those of the pieces
  pub texts : (lines_of new).texts ≡ flat_map texts_in edited

-- If an input gives new bytes, the hidden texts are in them in their order, at their marks, and all other texts are the input's in order.
abbrev pub HiddenStay : Type 0
HiddenStay = (bytes : List ℕ) (place : List Formula) (input new : List ℕ) → back_of bytes place input ≡ Content new → IsEdit bytes place input new

-- Every such input gives these bytes.
abbrev pub EditsStand : Type 0
EditsStand = (bytes : List ℕ) (place : List Formula) (input new : List ℕ) → IsEdit bytes place input new → back_of bytes place input ≡ Content new
