-- Words noted in sequence, each once and at most 48.
use Rattle.std.specs.Prelude.{ℕ, nat_lt, Bool, true, not, ◌&&◌, if◌then◌else◌, List, [], ◌∷◌, ◌++◌, length}
use Rattle.std.specs.List.{fold}
use Rattle.lis_limits.specs.declared.TheConstants.{MAX_DERIVED}
use Rattle.lis_words.specs.Words.{has_word}

-- the words, with one more if it is not there and fewer than 48 are
abbrev pub noted : List (List ℕ) → List ℕ → List (List ℕ)
noted words word =
    if has_word words word then words
    else (if nat_lt (length words) MAX_DERIVED then words ++ word ∷ [] else words)

abbrev pub noted_all : List (List ℕ) → List (List ℕ) → List (List ℕ)
noted_all words more = fold noted words more

-- no word occurs twice
abbrev pub are_distinct_words : List (List ℕ) → Bool
are_distinct_words [] = true
are_distinct_words (word ∷ words) = not (has_word words word) && are_distinct_words words
