-- What a new description is made of: numbers that are found, and words that have none.
use Rattle.std.specs.Prelude.{◌≡◌, ℕ, ◌+◌, ◌≤◌, true, ◌&&◌, ◌||◌, is_none, None, List, ◌∷◌, length, IsTrue}
use Rattle.std.specs.List.{flat_map}
use Rattle.lis_dict.specs.Dict.{number_of}
use Rattle.lis_words.specs.Words.{has_word}
use Rattle.lis_model.specs.Noted.{are_distinct_words}
use Rattle.lis_model.specs.State.{heads}
use Rattle.lis_kept.specs.Metadata.{Metadata}
use Rattle.lis_store.specs.Drafts.{Draft}
use Rattle.lis_store.specs.Admitting.{described_words, described_by}
use Rattle.lis_store.specs.Finding.{FindsAll}

-- each word with its head
abbrev pub with_heads : List (List ℕ) → List (List ℕ)
with_heads words = flat_map (λ word. word ∷ heads word) words

-- Those of the words that have no number are noted too, each once.
pub record Notes (k : Metadata) (more fresh wider : List (List ℕ)) : Type 0 where
  pub few : length wider ≤ length fresh + length more
  pub once : IsTrue (are_distinct_words fresh) → IsTrue (are_distinct_words wider)
  pub noted : (word : List ℕ) → has_word wider word ≡ (has_word fresh word || (has_word more word && is_none (number_of k.dict word)))

-- Of the words that a file's description would have, the numbers are found, and `fresh` has those without a number, each once.
pub record IsFound (k : Metadata) (draft : Draft) (found : List ℕ) (fresh : List (List ℕ)) : Type 0 where
  pub finds : FindsAll k (described_words k draft) found
  pub once : IsTrue (are_distinct_words fresh)
  pub new : (word : List ℕ) → has_word fresh word ≡ true → number_of k.dict word ≡ None
  pub others : (word : List ℕ) → number_of k.dict word ≡ None → has_word (described_by k draft) word ≡ has_word fresh word
