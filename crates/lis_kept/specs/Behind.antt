-- The axioms of a word, in order.
use Rattle.std.specs.Prelude.{ℕ, Bool, true, if◌then◌else◌, Option, Some, None, option_to_list, List, map, filter}
use Rattle.std.specs.Ordering.{is_lt}
use Rattle.lis_dict.specs.Dict.{Dict, word_of}
use Rattle.lis_words.specs.Words.{word_cmp, same_word, is_plain_word}

-- the right sides of the axioms that have this left side, in their order
abbrev pub rights_of : List (List ℕ × List ℕ) → List ℕ → List (List ℕ)
rights_of axioms left = map (λ pair. pair.1) (filter (λ pair. same_word pair.0 left) axioms)

-- the word comes after the last one, if there is one
abbrev pub is_behind : Option (List ℕ) → List ℕ → Bool
is_behind None word = true
is_behind (Some last) word = is_lt (word_cmp last word)

-- the word comes before the next one, if there is one
abbrev pub is_before : List ℕ → Option (List ℕ) → Bool
is_before word None = true
is_before word (Some next) = is_lt (word_cmp word next)

-- the word, if it is a plain one
abbrev pub plain_by : Option (List ℕ) → Option (List ℕ)
plain_by None = None
plain_by (Some word) = if is_plain_word word then Some word else None

-- the plain word to which an edge leads, if there is one
abbrev pub plain_right : Dict → ℕ × ℕ → List (List ℕ)
plain_right dict edge = option_to_list (plain_by (word_of dict edge.1))
