-- Words with one head, by what follows it.
use Rattle.std.specs.Prelude.{ℕ, Bool, false, List, [], ◌∷◌}
use Rattle.std.specs.List.{list_any}
use Rattle.lis_words.specs.Words.{same_word}

-- whether `with_head` of some head and these values has the word of the head and this value; if there are any values, the head alone is
-- also a word
abbrev pub has_value : List (List ℕ) → List ℕ → Bool
has_value [] value = false
has_value (v ∷ values) value = list_any (λ w. same_word w value) ([] ∷ v ∷ values)
