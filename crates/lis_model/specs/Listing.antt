-- Truth of formulas, the extension of a place, and what a listing shows.
use Rattle.std.specs.Prelude.{ℕ, nat_lt, nat_le, Bool, not, ◌&&◌, ◌||◌, List, filter}
use Rattle.std.specs.List.{list_any, list_all}
use Rattle.lis_words.specs.Words.{same_word, has_word}
use Rattle.lis_grammar.specs.Formula.{Formula}
use Rattle.lis_grammar.specs.Formula.Formula.{Has, SizeAtLeast, SizeBelow, Negation, Both, Either}
use Rattle.lis_model.specs.Table.{Table, Entry, entails}

abbrev pub holds : Formula → Entry → Bool
holds (Has word) file = has_word file.words word
holds (SizeAtLeast n) file = nat_le n file.size
holds (SizeBelow n) file = nat_lt file.size n
holds (Negation f) file = not (holds f file)
holds (Both f g) file = holds f file && holds g file
holds (Either f g) file = holds f file || holds g file

-- a place holds if each of its steps does
abbrev pub holds_all : List Formula → Entry → Bool
holds_all place file = list_all (λ step. holds step file) place

abbrev pub extension : Table → List Formula → List Entry
extension t place = filter (holds_all place) t.files

-- some file has the word, and some file lacks it: with the word there are fewer files, and not none
abbrev pub is_candidate : List Entry → List ℕ → Bool
is_candidate files word =
    list_any (λ (file : Entry). has_word file.words word) files && list_any (λ (file : Entry). not (has_word file.words word)) files

-- q is another candidate, and p entails it
abbrev pub is_above : Table → List Entry → List ℕ → List ℕ → Bool
is_above t files p q = entails t p q && not (same_word q p) && is_candidate files q

-- a candidate that entails no other
abbrev pub is_increment : Table → List Entry → List ℕ → Bool
is_increment t files p = is_candidate files p && not (list_any (is_above t files p) t.known)

-- the most general words that narrow the place to fewer files and not to none, in byte order
abbrev pub increments : Table → List Formula → List (List ℕ)
increments t place = filter (is_increment t (extension t place)) t.known

-- none of the file's words is a candidate
abbrev pub is_local : List Entry → Entry → Bool
is_local files file = not (list_any (is_candidate files) file.words)

-- the files of the extension that no candidate covers, in the order of their names
abbrev pub locals : Table → List Formula → List Entry
locals t place = filter (is_local (extension t place)) (extension t place)
