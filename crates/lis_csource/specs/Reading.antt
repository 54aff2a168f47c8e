-- A source that is read in part: what has been noted, and what the entries that follow still give.
use Rattle.std.specs.Prelude.{◌≡◌, ℕ, ◌==◌, ◌<◌, Bool, false, ◌&&◌, if◌then◌else◌, Option, Some, None, List, [], ◌∷◌, ◌++◌, filter, codes}
use Rattle.lis_words.specs.Bytes.{opening_brace}
use Rattle.lis_words.specs.Words.{is_word}
use Rattle.lis_model.specs.Noted.{noted_all}
use Rattle.lis_transducers.specs.Source.{is_byte, begins_with_byte, behind_call, is_defined}
use Rattle.lis_transducers.specs.declared.piece.Kind.{Kind}
use Rattle.lis_csource.specs.declared.source.Stage.{Stage}
use Rattle.lis_csource.specs.declared.source.Stage.TheVariants.{Nothing, Named, Open, Closed}

-- words that are noted if they are in the form of a word
abbrev pub noted_words : List (List ℕ) → List (List ℕ) → List (List ℕ)
noted_words out words = noted_all out (filter is_word words)

-- whether the tokens to come make the identifier a definition, if this much of it has been read
abbrev pub comes_true : Stage → ℕ → List Kind → Bool
comes_true Nothing parens kinds = false
comes_true Named parens kinds = is_defined kinds
comes_true Open parens kinds = begins_with_byte opening_brace (behind_call parens kinds)
comes_true Closed parens kinds = begins_with_byte opening_brace kinds

-- the stage after a token, by the depth of parentheses after it
abbrev pub stage_after : Stage → ℕ → Kind → Stage
stage_after Nothing parens kind = Nothing
stage_after Named parens kind = if is_byte 40 kind then Open else Nothing
stage_after Open parens kind = if is_byte 41 kind && (parens == 0) then Closed else Open
stage_after Closed parens kind = Nothing

-- the words if the identifier of this name is defined; `early` has them once paths have come after it
abbrev pub with_name : List (List ℕ) → List ℕ → Option (List (List ℕ)) → List (List ℕ)
with_name out name None = noted_words out ((codes "defines:" ++ name) ∷ [])
with_name out name (Some words) = words

-- the words that are right, by the tokens to come
abbrev pub right_words : Stage → ℕ → List ℕ → Option (List (List ℕ)) → List (List ℕ) → List Kind → List (List ℕ)
right_words stage parens name early out kinds =
    if comes_true stage parens kinds then with_name out name early else out

-- a name is outside parentheses, and an open parenthesis counts
abbrev pub IsSoundStage : Stage → ℕ → Type 0
IsSoundStage Nothing parens = Unit {0}
IsSoundStage Named parens = parens ≡ 0
IsSoundStage Open parens = 0 < parens
IsSoundStage Closed parens = Unit {0}
