-- Words and their numbers: a finite map.
use Rattle.std.specs.Prelude.{◌≡◌, ◌⊎◌, ℕ, ◌<◌, ◌≤◌, ◌==◌, nat_lt, not, Option, Some, None, Result, Ok, Err, List, map, filter, length, slice_index_or, IsTrue}
use Rattle.std.specs.Option.{option_map}
use Rattle.std.specs.List.{find, position, list_all}
use Rattle.std.specs.BTreeSet.{insert_key}
use Rattle.std.specs.declared.cmp.Ordering.{Ordering}
use Rattle.lis_graph.specs.Graph.{is_rising}
use Rattle.lis_words.specs.Words.{is_property, word_cmp, same_word}
use Rattle.lis_model.specs.Sets.{are_distinct}

-- words and their numbers, which are below `props`
pub record Dict : Type 0 where
  pub props : ℕ
  -- each word with its number, in the order of the words
  pub entries : List (List ℕ × ℕ)

-- the words, in their order
abbrev pub words : Dict → List (List ℕ)
words d = map (λ e. e.0) d.entries

-- the numbers, in the order of their words
abbrev pub numbers : Dict → List ℕ
numbers d = map (λ e. e.1) d.entries

-- the number that a word has
abbrev pub number_of : Dict → List ℕ → Option ℕ
number_of d word = option_map (λ e. e.1) (find (λ e. same_word e.0 word) d.entries)

-- the word that has a number
abbrev pub word_of : Dict → ℕ → Option (List ℕ)
word_of d number = option_map (λ e. e.0) (find (λ e. e.1 == number) d.entries)

-- the index of the word that has a number, in the order of words
abbrev pub place_of : Dict → ℕ → Option ℕ
place_of d number = position (λ e. e.1 == number) d.entries

-- entries are ordered by their words
abbrev pub entry_cmp : List ℕ × ℕ → List ℕ × ℕ → Ordering
entry_cmp a b = word_cmp a.0 b.0

-- the dictionary, with one more word
abbrev pub with_entry : Dict → List ℕ → ℕ → Dict
with_entry d word number = record d { entries = insert_key entry_cmp d.entries (word, number) }

-- the dictionary, without the word
abbrev pub without_word : Dict → List ℕ → Dict
without_word d word = record d { entries = filter (λ e. not (same_word e.0 word)) d.entries }

-- what holds of each dictionary
pub record IsDict (d : Dict) : Type 0 where
  pub rising : IsTrue (is_rising word_cmp (words d))
  pub forms : IsTrue (list_all is_property (words d))
  pub below : IsTrue (list_all (λ e. nat_lt e.1 d.props) d.entries)
  pub apart : IsTrue (are_distinct (numbers d))
  pub few : length d.entries ≤ d.props

-- the dictionary has just these words, each with its place in the list as its number
abbrev pub HasWords : Dict → List (Option (List ℕ)) → Type 0
HasWords d held = (d.props ≡ length held) × ((n : ℕ) → word_of d n ≡ slice_index_or held n None)

-- a word is added: one that is there keeps its number, a new one gets a free number, and it is refused where no number is free
abbrev pub Adds : {E : Type 0} → Dict → List ℕ → Dict → Result ℕ E → Type 0
Adds old word new (Ok n) =
    ((number_of old word ≡ Some n) × (new ≡ old))
    ⊎ ((number_of old word ≡ None) × (n < old.props) × (word_of old n ≡ None) × (new ≡ with_entry old word n))
Adds old word new (Err refused) = (number_of old word ≡ None) × (length old.entries ≡ old.props) × (new ≡ old)
