-- How much of a file's bytes gives all words that are derived from them.
use Rattle.std.specs.Prelude.{◌≡◌, ℕ, Bool, true, not, ◌&&◌, ◌||◌, Option, List, ◌++◌, length}
use Rattle.lis_mail.specs.Header.{has_end_from}
use Rattle.lis_model.specs.Derived.{derived_words, is_mail, is_source, suffix_of}

-- Whether it is certain that a prefix gives all words: of a mail, if an empty line ends in it at index `seen` or later; of a C source
-- never; of any other file always.
abbrev pub gives_by : Option (List ℕ) → List ℕ → ℕ → Bool
gives_by suffix front seen = not (is_source suffix) && (not (is_mail suffix) || has_end_from front seen)

unfoldable pub gives_all : List ℕ → List ℕ → ℕ → Bool
gives_all name front seen = gives_by (suffix_of name) front seen

-- Whatever follows such a prefix, the words are the same, as long as there are as many bytes.
abbrev pub FrontsGiveAll : Type 0
FrontsGiveAll = (name front rest other : List ℕ) (seen : ℕ) → gives_all name front seen ≡ true → length rest ≡ length other
    → derived_words name (front ++ rest) ≡ derived_words name (front ++ other)
