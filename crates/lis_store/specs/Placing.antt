-- The words of a place under which a word is declared, and their numbers.
use Rattle.std.specs.Prelude.{◌≡◌, ℕ, ◌+◌, ◌≤◌, Bool, true, ◌&&◌, if◌then◌else◌, is_some, Option, None, List, length, IsTrue}
use Rattle.std.specs.List.{list_all}
use Rattle.lis_dict.specs.Dict.{number_of, word_of}
use Rattle.lis_words.specs.Words.{is_plain_word}
use Rattle.lis_place.specs.declared.node.Node.{Node}
use Rattle.lis_place.specs.Nodes.{node_words}
use Rattle.lis_model.specs.Sets.{with_words, are_distinct}
use Rattle.lis_kept.specs.Metadata.{Metadata}
use Rattle.lis_kept.specs.Telling.{is_declared, words_told}
use Rattle.lis_store.specs.Assigning.{is_conjunct}

-- a plain word, or a conjunction
abbrev pub is_plain_conjunct : Node → Bool
is_plain_conjunct node = is_conjunct node && list_all is_plain_word (node_words node)

-- the number of a word, if it is declared
abbrev pub declared_number : Metadata → List ℕ → Option ℕ
declared_number k word = if is_declared k word then number_of k.dict word else None

-- The words of this set are declared, and these are their numbers, each once.
pub record AreNumbersOf (k : Metadata) (words : List (List ℕ)) (numbers : List ℕ) : Type 0 where
  pub declared : IsTrue (list_all (is_declared k) words)
  pub apart : IsTrue (are_distinct numbers)
  pub named : IsTrue (list_all (λ n. is_some (word_of k.dict n)) numbers)
  pub told : words_told k.dict numbers ≡ words

-- The numbers of more words are added to those of a set, each once. `fits` says whether all these words are declared.
pub record TakesNumbers (k : Metadata) (more : List (List ℕ)) (old new : List ℕ) (fits : Bool) : Type 0 where
  pub declared : fits ≡ list_all (is_declared k) more
  pub few : length new ≤ length old + length more
  pub numbers : fits ≡ true → (words : List (List ℕ)) → AreNumbersOf k words old → AreNumbersOf k (with_words words more) new
