-- What a view of a content shows: the lines of which a formula holds, and marks instead of the others.
use Rattle.std.specs.Prelude.{◌≡◌, ℕ, ◌+◌, ◌<◌, Bool, true, false, if◌then◌else◌, List, [], ◌∷◌, ◌++◌, length, map, codes, IsTrue}
use Rattle.std.specs.List.{flat_map, AllByRecursion}
use Rattle.std.specs.Int.Digits.{digits_of}
use Rattle.lis_grammar.specs.Formula.{Formula}
use Rattle.lis_model.specs.Replies.{line}
use Rattle.lis_views.specs.Lines.{lines_of}
use Rattle.lis_views.specs.Truth.{line_holds, LineHolds}

pub data Piece : Type 0 where
  -- a text that is shown
  Shown : List ℕ → Piece
  -- texts that are hidden, in sequence
  Hidden : List (List ℕ) → Piece

abbrev pub texts_in : Piece → List (List ℕ)
texts_in (Shown text) = text ∷ []
texts_in (Hidden run) = run

-- the formula holds of a shown text, and of none of a run, which has at least one
abbrev pub IsOfKind : List Formula → Piece → Type 0
IsOfKind place (Shown text) = LineHolds place text
IsOfKind place (Hidden run) = (0 < length run) × AllByRecursion (λ text. LineHolds place text → ⊥) run

-- no run directly follows another
abbrev pub are_apart : List Piece → Bool
are_apart [] = true
are_apart (Shown text ∷ parts) = are_apart parts
are_apart (Hidden run ∷ []) = true
are_apart (Hidden run ∷ Shown text ∷ parts) = are_apart parts
are_apart (Hidden run ∷ Hidden next ∷ parts) = false

-- these are the pieces of the texts: those of which the formula holds, and the longest runs of others
pub record IsParted (place : List Formula) (texts : List (List ℕ)) (parts : List Piece) : Type 0 where
  pub whole : flat_map texts_in parts ≡ texts
  pub kinds : AllByRecursion (IsOfKind place) parts
  pub apart : IsTrue (are_apart parts)

-- a hidden text before some pieces: it begins the run there, or makes one
abbrev pub hidden_before : List ℕ → List Piece → List Piece
hidden_before text [] = Hidden (text ∷ []) ∷ []
hidden_before text (Shown next ∷ pieces) = Hidden (text ∷ []) ∷ Shown next ∷ pieces
hidden_before text (Hidden run ∷ pieces) = Hidden (text ∷ run) ∷ pieces

-- the texts that pass a test, and the longest runs of others
abbrev pub pieces_by : (List ℕ → Bool) → List (List ℕ) → List Piece
pieces_by test [] = []
pieces_by test (text ∷ texts) = if test text then Shown text ∷ pieces_by test texts else hidden_before text (pieces_by test texts)

-- The pieces of a content. The law of them that matters is `OneParting`.
abbrev pub pieces : List ℕ → List Formula → List Piece
pieces bytes place = pieces_by (line_holds place) (lines_of bytes).texts

abbrev pub runs_of : List Piece → List (List (List ℕ))
runs_of [] = []
runs_of (Shown text ∷ pieces) = runs_of pieces
runs_of (Hidden run ∷ pieces) = run ∷ runs_of pieces

-- a number above 0 in decimal digits, without leading zeros
abbrev pub numeral : ℕ → List ℕ
numeral n = map (λ digit. 48 + digit) (digits_of 10 n)

-- `@`, the number of a run, a blank, and how many texts it has
abbrev pub mark_of : ℕ → List (List ℕ) → List ℕ
mark_of n run = 64 ∷ numeral n ++ 32 ∷ numeral (length run)

-- `+` and each text that is shown, and the marks of the runs, numbered from n on
abbrev pub piece_lines : ℕ → List Piece → List (List ℕ)
piece_lines n [] = []
piece_lines n (Shown text ∷ pieces) = (43 ∷ text) ∷ piece_lines n pieces
piece_lines n (Hidden run ∷ pieces) = mark_of n run ∷ piece_lines (n + 1) pieces

-- `!` is the last line if the last text has no line feed
abbrev pub view_lines : List Piece → Bool → List (List ℕ)
view_lines pieces is_open = piece_lines 1 pieces ++ (if is_open then codes "!" ∷ [] else [])

abbrev pub view_of : List ℕ → List Formula → List ℕ
view_of bytes place = flat_map line (view_lines (pieces bytes place) (lines_of bytes).is_open)
