-- The own links of words, and axioms that lead on from there.
use Rattle.std.specs.Prelude.{ℕ, Bool, not, ◌&&◌, List, ◌∷◌}
use Rattle.std.specs.List.{flat_map}
use Rattle.lis_words.specs.Words.{has_word}
use Rattle.lis_model.specs.Sets.{set_of}
use Rattle.lis_model.specs.State.{links}

-- a word, and what its own links lead to
abbrev pub with_links : List (List ℕ) → List ℕ → List (List ℕ)
with_links declared word = word ∷ links declared word

abbrev pub all_linked : List (List ℕ) → List (List ℕ) → List (List ℕ)
all_linked declared words = set_of (flat_map (with_links declared) words)

-- the words have the left side of the axiom, and not the right one
abbrev pub is_open : List (List ℕ) → List ℕ × List ℕ → Bool
is_open words pair = has_word words pair.0 && not (has_word words pair.1)
