-- The pieces of a source whose lines are joined, from left to right.
use Rattle.std.specs.Prelude.{◌≡◌, ℕ, zero, suc, ◌==◌, Bool, false, not, ◌&&◌, ◌||◌, if◌then◌else◌, List, [], ◌∷◌, length, codes}
use Rattle.std.specs.Char.{is_ascii_digit}
use Rattle.lis_words.specs.Words.{same_word}
use Rattle.lis_transducers.specs.Bytes.{is_slash, is_white, is_name_start, is_name_byte, is_number_byte, is_no_feed, front, past, begins_with, but_first}
use Rattle.lis_transducers.specs.declared.piece.Kind.{Kind}
use Rattle.lis_transducers.specs.declared.piece.Kind.TheVariants.{Blank, White, Feed, Comment, Literal, Identifier, Number, Path, Mark}
use Rattle.lis_transducers.specs.declared.piece.Context.{Context}
use Rattle.lis_transducers.specs.declared.piece.Context.TheVariants.{LineStart, Code, Hash, Include, Directive}
use Rattle.lis_words.specs.Bytes.{is_feed, is_blank}

-- a piece, with its bytes if it is an identifier or a path
pub record Piece : Type 0 where
  pub kind : Kind
  pub text : List ℕ

-- the first piece of some bytes, and what follows it
pub record Read : Type 0 where
  pub piece : Piece
  pub rest : List ℕ

abbrev pub is_in_path : ℕ → ℕ → Bool
is_in_path close b = not (is_feed b) && not (b == close)

-- the bytes of a piece, by its kind, from where its text begins
abbrev pub text_of : Kind → List ℕ → List ℕ
text_of Identifier bytes = front is_name_byte bytes
text_of (Path close) bytes = front (is_in_path close) bytes
text_of _ bytes = []

abbrev pub piece_of : Kind → List ℕ → Piece
piece_of kind bytes = record { kind = kind; text = text_of kind bytes }

abbrev pub read : Kind → List ℕ → List ℕ → Read
read kind text rest = record { piece = piece_of kind text; rest = rest }

-- what follows the next */, or nothing: block comments do not nest (C)
abbrev pub after_block : List ℕ → List ℕ
after_block [] = []
after_block (b ∷ bytes) = if (b == 42) && begins_with 47 bytes then but_first bytes else after_block bytes

-- What follows a literal. A literal ends with its closing byte, before the next LF, or at the end. A backslash escapes the byte after it
-- (C), but not an LF (this project's own). `escaped` says whether a backslash is before the bytes.
abbrev pub after_literal : ℕ → Bool → List ℕ → List ℕ
after_literal close escaped [] = []
after_literal close escaped (b ∷ bytes) =
    if is_feed b then b ∷ bytes
    else if escaped then after_literal close false bytes
    else if b == close then bytes
    else after_literal close (b == 92) bytes

-- a comment, if the byte after a / makes one: `//` runs to the end of its line (C)
abbrev pub slash_piece : List ℕ → Read
slash_piece [] = read (Mark 47) [] []
slash_piece (b ∷ bytes) =
    if b == 42 then read Comment [] (after_block bytes)
    else if is_slash b then read Comment [] (past is_no_feed bytes)
    else read (Mark 47) [] (b ∷ bytes)

-- the byte that closes an include's path, by the one that opens it: <x> or "x" (C)
abbrev pub close_of : ℕ → ℕ
close_of first = if first == 60 then 62 else first

-- whether a path ends before the next LF
abbrev pub has_close : ℕ → List ℕ → Bool
has_close close bytes = begins_with close (past (is_in_path close) bytes)

-- whether a path begins here: only after `include`, and only if its closing byte comes before the next LF
abbrev pub opens_path : Context → ℕ → List ℕ → Bool
opens_path Include first bytes = ((first == 60) || (first == 34)) && has_close (close_of first) bytes
opens_path _ first bytes = false

-- < alone is a byte like others; " and ' begin literals (C)
abbrev pub quote_piece : ℕ → List ℕ → Read
quote_piece first bytes =
    if first == 60 then read (Mark 60) [] bytes else read Literal [] (after_literal first false bytes)

abbrev pub open_piece : Context → ℕ → List ℕ → Read
open_piece context first bytes =
    if opens_path context first bytes then (let close = close_of first in read (Path close) bytes (but_first (past (is_in_path close) bytes)))
    else quote_piece first bytes

abbrev pub is_open : ℕ → Bool
is_open b = (b == 34) || (b == 39) || (b == 60)

-- the piece that a byte begins
abbrev pub first_piece : Context → ℕ → List ℕ → Read
first_piece context b bytes =
    if is_blank b then read Blank [] bytes
    else if is_feed b then read Feed [] bytes
    else if is_white b then read White [] bytes
    else if is_name_start b then read Identifier (b ∷ bytes) (past is_name_byte bytes)
    else if is_ascii_digit b then read Number [] (past is_number_byte bytes)
    else if is_slash b then slash_piece bytes
    else if is_open b then open_piece context b bytes
    else read (Mark b) [] bytes

-- The context of the pieces after one. A # begins a directive if only white space and comments are before it on its line (C). The directive
-- runs to the next LF outside comments. Only spaces, tabs and comments may be around `include`.
abbrev pub kind_after : Context → Kind → List ℕ → Context
kind_after context Feed text = LineStart
kind_after context Blank text = context
kind_after context Comment text = context
kind_after LineStart White text = LineStart
kind_after LineStart (Mark b) text = if b == 35 then Hash else Code
kind_after LineStart _ text = Code
kind_after Code _ text = Code
kind_after Hash Identifier text = if same_word text (codes "include") then Include else Directive
kind_after Hash _ text = Directive
kind_after Include _ text = Directive
kind_after Directive _ text = Directive

abbrev pub context_after : Context → Piece → Context
context_after context piece = kind_after context piece.kind piece.text

-- The pieces, read in sequence. There are at most as many as there are bytes, since each takes at least one byte. The law of it that
-- matters is `IsFirst`, which the code's `first_piece` ensures.
abbrev pub pieces_within : ℕ → Context → List ℕ → List Piece
pieces_within zero context bytes = []
pieces_within (suc n) context [] = []
pieces_within (suc n) context (b ∷ bytes) =
    (first_piece context b bytes).piece
    ∷ pieces_within n (context_after context (first_piece context b bytes).piece) (first_piece context b bytes).rest

unfoldable pub pieces : Context → List ℕ → List Piece
pieces context bytes = pieces_within (length bytes) context bytes

-- the first piece in this context is this one, and these bytes follow it
abbrev pub IsFirst : Context → List ℕ → Piece → List ℕ → Type 0
IsFirst context bytes piece rest = pieces context bytes ≡ piece ∷ pieces (context_after context piece) rest
