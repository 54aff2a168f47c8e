-- The route to a file: the increments that lead from a place to it.
use Rattle.std.specs.Prelude.{◌≡◌, ℕ, zero, suc, not, if◌then◌else◌, Option, Some, None, List, [], ◌∷◌, ◌++◌, length, IsTrue}
use Rattle.std.specs.List.{find, Contains}
use Rattle.lis_words.specs.Words.{has_word}
use Rattle.lis_grammar.specs.Formula.{Formula}
use Rattle.lis_model.specs.Tests.{step_of}
use Rattle.lis_model.specs.Table.{Table, Entry}
use Rattle.lis_model.specs.Listing.{extension, increments, is_local, locals}

-- the first increment that the file has
abbrev pub first_increment : Table → List Formula → Entry → Option (List ℕ)
first_increment t place file = find (has_word file.words) (increments t place)

-- the word, and then what follows from it
abbrev pub word_then : Option (List ℕ) → (List ℕ → List (List ℕ)) → List (List ℕ)
word_then None next = []
word_then (Some p) next = p ∷ next p

-- the first n words of the route to a file
abbrev pub route_within : ℕ → Table → List Formula → Entry → List (List ℕ)
route_within zero t place file = []
route_within (suc n) t place file =
    if is_local (extension t place) file then []
    else word_then (first_increment t place file) (λ p. route_within n t (place ++ step_of p ∷ []) file)

-- The increments that lead to a file: none if it is a local, and otherwise the first increment that it has, and the route from there. There
-- are fewer of them than files in the extension.
abbrev pub route : Table → List Formula → Entry → List (List ℕ)
route t place file = route_within (length (extension t place)) t place file

-- the same as a relation, which counts nothing
abbrev pub IsRoute : Table → List Formula → Entry → List (List ℕ) → Type 0
IsRoute t place file [] = IsTrue (is_local (extension t place) file)
IsRoute t place file (p ∷ words) =
    IsTrue (not (is_local (extension t place) file))
    × (first_increment t place file ≡ Some p)
    × IsRoute t (place ++ step_of p ∷ []) file words

-- each word is an increment of the place reached by then, the file is in the extension of each place on the route, and a local at its end
abbrev pub Leads : Table → List Formula → Entry → List (List ℕ) → Type 0
Leads t place file [] = Contains (locals t place) file
Leads t place file (p ∷ words) =
    Contains (extension t place) file
    × Contains (increments t place) p
    × Leads t (place ++ step_of p ∷ []) file words
