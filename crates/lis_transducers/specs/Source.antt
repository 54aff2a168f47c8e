-- The words that a C source gives. Which words it gives is this project's own.
use Rattle.std.specs.Prelude.{ℕ, ◌+◌, ◌-◌, ◌==◌, Bool, true, false, not, ◌&&◌, if◌then◌else◌, List, [], ◌∷◌, ◌++◌, filter, codes}
use Rattle.lis_words.specs.Bytes.{opening_brace, closing_brace}
use Rattle.lis_words.specs.Words.{is_word, has_word}
use Rattle.lis_transducers.specs.Joined.{joined}
use Rattle.lis_transducers.specs.Pieces.{Piece, pieces}
use Rattle.lis_transducers.specs.Entries.{entries, tokens, last_part}
use Rattle.lis_transducers.specs.declared.piece.Kind.{Kind}
use Rattle.lis_transducers.specs.declared.piece.Kind.TheVariants.{Identifier, Path, Mark}
use Rattle.lis_transducers.specs.declared.piece.Context.TheVariants.{LineStart}

-- whether a token is this byte
abbrev pub is_byte : ℕ → Kind → Bool
is_byte c (Mark b) = b == c
is_byte c _ = false

-- A depth after a token, by its opening and its closing byte: it never falls below 0.
abbrev pub depth_after : ℕ → ℕ → ℕ → Kind → ℕ
depth_after opening closing depth kind =
    if is_byte opening kind then depth + 1 else (if is_byte closing kind then depth - 1 else depth)

-- { and }
abbrev pub braces_after : ℕ → Kind → ℕ
braces_after depth kind = depth_after opening_brace closing_brace depth kind

-- ( and )
abbrev pub parens_after : ℕ → Kind → ℕ
parens_after depth kind = depth_after 40 41 depth kind

abbrev pub begins_with_byte : ℕ → List Kind → Bool
begins_with_byte c [] = false
begins_with_byte c (kind ∷ kinds) = is_byte c kind

-- what follows the first ) that brings the depth of parentheses back to 0
abbrev pub behind_call : ℕ → List Kind → List Kind
behind_call depth [] = []
behind_call depth (kind ∷ kinds) =
    if is_byte 41 kind && (parens_after depth kind == 0) then kinds else behind_call (parens_after depth kind) kinds

-- whether the tokens after an identifier make it a definition: ( first, and { after the ) that closes it
abbrev pub is_defined : List Kind → Bool
is_defined kinds = begins_with_byte 40 kinds && begins_with_byte opening_brace (behind_call 0 kinds)

-- the words of C that come before ( and are no functions
abbrev pub keywords : List (List ℕ)
keywords =
    codes "if" ∷ codes "for" ∷ codes "while" ∷ codes "switch" ∷ codes "return" ∷ codes "sizeof" ∷ []

abbrev pub is_identifier : Kind → Bool
is_identifier Identifier = true
is_identifier _ = false

-- whether a piece may be defined at its position: an identifier outside braces and parentheses, and no keyword
abbrev pub is_candidate : ℕ → ℕ → Piece → Bool
is_candidate braces parens piece =
    is_identifier piece.kind && (braces == 0) && (parens == 0) && not (has_word keywords piece.text)

abbrev pub included_word : List ℕ → List ℕ
included_word path = codes "includes:" ++ last_part path

abbrev pub is_path : Kind → Bool
is_path (Path close) = true
is_path _ = false

-- the words that an entry gives, by the depths before it and the tokens after it
abbrev pub entry_words : ℕ → ℕ → Piece → List Kind → List (List ℕ)
entry_words braces parens piece behind =
    if is_path piece.kind then included_word piece.text ∷ []
    else if is_candidate braces parens piece && is_defined behind then (codes "defines:" ++ piece.text) ∷ []
    else []

-- the words in the order of what gives them, with the depths before the first entry
abbrev pub words_at : ℕ → ℕ → List Piece → List (List ℕ)
words_at braces parens [] = []
words_at braces parens (piece ∷ ps) =
    entry_words braces parens piece (tokens ps) ++ words_at (braces_after braces piece.kind) (parens_after parens piece.kind) ps

-- The words of a source, each if it is in the form of a word.
unfoldable pub source_words : List ℕ → List (List ℕ)
source_words bytes = filter is_word (words_at 0 0 (entries LineStart (pieces LineStart (joined bytes))))
