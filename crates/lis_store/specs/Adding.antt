-- Words of a file that is put into memory.
use Rattle.std.specs.Prelude.{◌≡◌, ℕ, ◌+◌, ◌≤◌, Bool, true, false, ◌&&◌, ◌||◌, if◌then◌else◌, Option, is_some, Some, None, List, [], ◌∷◌, ◌++◌, length, IsSome}
use Rattle.std.specs.List.{flat_map}
use Rattle.lis_dict.specs.Dict.{Dict, words, number_of, word_of}
use Rattle.lis_ext.specs.Numbers.{numbers_where}
use Rattle.lis_words.specs.Words.{has_word, is_valued, head_bytes, is_head, is_built_in}
use Rattle.lis_model.specs.Sets.{with_words}
use Rattle.lis_model.specs.State.{heads}
use Rattle.lis_kept.specs.Metadata.{Metadata}
use Rattle.lis_kept.specs.Areas.{is_marked, marked_count}
use Rattle.lis_kept.specs.Telling.{state_of}
use Rattle.lis_kept.specs.Changes.{Marks}
use Rattle.lis_store.specs.Drafts.{Draft}

-- ---- numbers of words
-- there is a word, and it is one of these
abbrev pub is_one_of : List (List ℕ) → Option (List ℕ) → Bool
is_one_of words None = false
is_one_of words (Some word) = has_word words word

-- the numbers of these words, in rising order
abbrev pub numbers_named : Dict → List (List ℕ) → List ℕ
numbers_named dict words = numbers_where dict.props (λ n. is_one_of words (word_of dict n))

-- each of the words has a number
abbrev pub AreNumbered : Dict → List (List ℕ) → Type 0
AreNumbered dict words = (word : List ℕ) → has_word words word ≡ true → IsSome (number_of dict word)

-- ---- words that get numbers
-- the head of a word, if it has one, and then the word
abbrev pub behind_head : List ℕ → List (List ℕ)
behind_head word = heads word ++ word ∷ []

abbrev pub with_heads : List (List ℕ) → List (List ℕ)
with_heads words = flat_map behind_head words

-- a valued word whose head has a number or is built in, or another word that has a number or is a built-in head
abbrev pub may_learn : Metadata → List ℕ → Bool
may_learn k word =
    if is_valued word then is_some (number_of k.dict (head_bytes word)) || is_built_in (head_bytes word)
    else is_some (number_of k.dict word) || (is_head word && is_built_in word)

-- with these words there are no more words than there is room for
abbrev pub HasWordRoom : Metadata → List (List ℕ) → Type 0
HasWordRoom k more = length (with_words (words k.dict) more) ≤ k.limits.props

-- These words have numbers now, and each word that had one keeps it. At most as many more blocks are marked as there are new words.
pub record LearnsAll (more : List (List ℕ)) (p q : Metadata) : Type 0 where
  pub metadata : q ≡ record p { dict = q.dict; marks = q.marks }
  pub marks : Marks (length more) p q
  pub few : marked_count q + length (words p.dict) ≤ marked_count p + length (words q.dict)
  pub marked : (block : ℕ) → is_marked p block ≡ true → is_marked q block ≡ true
  pub words : words q.dict ≡ with_words (words p.dict) more
  pub keeps : (n : ℕ) (word : List ℕ) → word_of p.dict n ≡ Some word → word_of q.dict n ≡ Some word
  pub state : (at : ℕ → List ℕ) → state_of q at ≡ state_of p at

-- The words that get numbers with a file: those that are assigned to it, and those derived from it. The tests that it meets are declared
-- already.
abbrev pub learnt_words : Draft → List (List ℕ)
learnt_words draft = draft.assigned ++ draft.own
