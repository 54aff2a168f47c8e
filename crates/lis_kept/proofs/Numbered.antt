-- Sets of words, by the numbers that have them.
use Rattle.lis_kept.proofs.Common.{◌≡◌, ℕ, Bool, true, List, Some, flat_map, IsStrictlySortedBy, Among, Dict, word_of, word_cmp, same_words}
use Rattle.std.specs.Option.{option_to_list}
use Rattle.lis_laws.proofs.Members.{sorted_set_of}
use Rattle.lis_kept.specs.Metadata.{Metadata}
use Rattle.lis_kept.specs.Sound.{AreSound}
use Rattle.lis_kept.specs.Telling.{words_told}
use Rattle.lis_kept.proofs.Known.{word_among, among_word}
use Rattle.lis_model.specs.Sets.{has_number}

-- the numbers that pass the test are those of the words
pub record Numbers (d : Dict) (test : ℕ → Bool) (ws : List (List ℕ)) : Type 0 where
  pub numbered : (w : List ℕ) → Among ws w → (n : ℕ) × (word_of d n ≡ Some w) × (test n ≡ true)
  pub worded : (n : ℕ) (w : List ℕ) → word_of d n ≡ Some w → test n ≡ true → Among ws w

module _ (k : Metadata) (sound : AreSound k) where
  sorted_told : (ns : List ℕ) → IsStrictlySortedBy word_cmp (words_told k.dict ns)
  sorted_told ns = sorted_set_of (flat_map (λ n. option_to_list (word_of k.dict n)) ns)

  -- numbers give the set of words whose numbers they are
  pub numbers_are : (ns : List ℕ) (ws : List (List ℕ)) → IsStrictlySortedBy word_cmp ws → Numbers k.dict (has_number ns) ws → words_told k.dict ns ≡ ws
  numbers_are ns ws sorted numbers =
      same_words (words_told k.dict ns) ws (sorted_told ns) sorted
      (λ w m. let found = among_word k sound ns w m in numbers.worded found.0 w found.1 found.2)
      (λ w m. let found = numbers.numbered w m in word_among k sound ns found.0 w found.1 found.2)
