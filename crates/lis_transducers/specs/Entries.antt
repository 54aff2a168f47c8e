-- What counts in a source: the paths of its includes, and the tokens outside directives.
use Rattle.std.specs.Prelude.{ℕ, ◌==◌, Bool, true, false, not, if◌then◌else◌, List, [], ◌∷◌}
use Rattle.std.specs.List.{list_any}
use Rattle.lis_transducers.specs.Bytes.{is_slash}
use Rattle.lis_transducers.specs.Pieces.{Piece, context_after}
use Rattle.lis_transducers.specs.declared.piece.Kind.{Kind}
use Rattle.lis_transducers.specs.declared.piece.Kind.TheVariants.{Blank, White, Feed, Comment, Path, Mark}
use Rattle.lis_transducers.specs.declared.piece.Context.{Context}
use Rattle.lis_transducers.specs.declared.piece.Context.TheVariants.{LineStart, Code, Hash, Include, Directive}

-- whether a piece counts: a path does, and each token outside directives; white space, comments and a # that begins a directive are no
-- tokens
abbrev pub counts : Context → Kind → Bool
counts context Blank = false
counts context White = false
counts context Feed = false
counts context Comment = false
counts context (Path close) = true
counts LineStart (Mark b) = not (b == 35)
counts LineStart _ = true
counts Code _ = true
counts Hash _ = false
counts Include _ = false
counts Directive _ = false

-- the pieces that count, if the first piece is in this context
abbrev pub entries : Context → List Piece → List Piece
entries context [] = []
entries context (piece ∷ ps) =
    if counts context piece.kind then piece ∷ entries (context_after context piece) ps
    else entries (context_after context piece) ps

-- each piece that counts is a token, except a path
abbrev pub is_token : Kind → Bool
is_token (Path close) = false
is_token _ = true

-- the tokens among them
abbrev pub tokens : List Piece → List Kind
tokens [] = []
tokens (piece ∷ ps) = if is_token piece.kind then piece.kind ∷ tokens ps else tokens ps

-- the bytes of a path after its last /, or all of them
abbrev pub last_part : List ℕ → List ℕ
last_part [] = []
last_part (b ∷ bytes) =
    if list_any is_slash bytes then last_part bytes else (if is_slash b then bytes else b ∷ bytes)
