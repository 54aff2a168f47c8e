-- Which words become known when something is added to a state.
use Rattle.std.specs.Prelude.{◌≡◌, ℕ, not, ◌&&◌, List, ◌∷◌, IsTrue}
use Rattle.std.specs.List.{list_all}
use Rattle.lis_words.specs.Words.{has_word, is_plain_word}
use Rattle.lis_model.specs.Sets.{with_word, with_words}
use Rattle.lis_model.specs.State.{State, File, WellFormed, heads, description, known, is_declarable}
use Rattle.lis_model.specs.Changes.{declared_under, axiom_added, has_name, file_added}

-- The sets are equal as lists, so their lengths are too.
abbrev pub KnownGrows : Type 0
KnownGrows = (s : State) → WellFormed s → record {
  -- the word itself, since all that the others entail is declared
  declares : (word : List ℕ) (words : List (List ℕ)) → IsTrue (is_declarable word) → IsTrue (list_all (λ q. is_plain_word q && has_word s.declared q) words)
      → known (declared_under s word words) ≡ with_word (known s) word;
  -- the words of a new file
  adds_file : (file : File) → IsTrue (not (has_name s.files file.name)) → known (file_added s file) ≡ with_words (known s) (description s file);
  -- the left side of an axiom and its head, since all that its right side entails is declared
  adds_axiom : (l r : List ℕ) → IsTrue (is_plain_word r && has_word s.declared r)
      → known (axiom_added s (l, r)) ≡ with_words (known s) (l ∷ heads l);
}
