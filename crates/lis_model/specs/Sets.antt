-- Sets of words: lists in byte order, without repeats. Lists of numbers: of some bytes each, and without repeats.
use Rattle.std.specs.Prelude.{ℕ, ◌==◌, ◌^◌, nat_lt, Bool, true, not, ◌&&◌, List, [], ◌∷◌}
use Rattle.std.specs.BTreeSet.{insert_key}
use Rattle.std.specs.List.{list_all, list_any}
use Rattle.lis_graph.specs.Graph.{with_more}
use Rattle.lis_words.specs.Words.{word_cmp}

-- the set, with one more word
abbrev pub with_word : List (List ℕ) → List ℕ → List (List ℕ)
with_word words word = insert_key word_cmp words word

-- the set, with these words
abbrev pub with_words : List (List ℕ) → List (List ℕ) → List (List ℕ)
with_words words more = with_more word_cmp words more

-- the set of these words
abbrev pub set_of : List (List ℕ) → List (List ℕ)
set_of words = with_words [] words

-- how many values a byte has
abbrev pub byte_values : ℕ
byte_values = 256

-- each number is one of this many bytes
abbrev pub fit : ℕ → List ℕ → Bool
fit width ns = list_all (λ n. nat_lt n (byte_values ^ width)) ns

-- the number is one of the list
abbrev pub has_number : List ℕ → ℕ → Bool
has_number ns n = list_any (λ m. m == n) ns

-- no number occurs twice
abbrev pub are_distinct : List ℕ → Bool
are_distinct [] = true
are_distinct (n ∷ ns) = not (has_number ns n) && are_distinct ns
