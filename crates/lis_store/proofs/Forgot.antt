-- Which words are known after those are removed that are not in use.
use Rattle.lis_store.proofs.Common.{rules, ◌≡◌, ◌⊎◌, ℕ, not, ◌&&◌, Bool, true, if◌then◌else◌, List, Some, None, is_some, both_ways, has_number, Dict, word_of}

module _ (d e : Dict) (numbers : List ℕ) (in_use : ℕ → Bool) (words : (n : ℕ) → word_of e n ≡ (if has_number numbers n && not (in_use n) then None else word_of d n)) where
  pub word_before : (n : ℕ) (w : List ℕ) → word_of e n ≡ Some w → word_of d n ≡ Some w
  word_before n w is = search (rules)

  pub word_stays : (n : ℕ) → in_use n ≡ true → word_of e n ≡ word_of d n
  word_stays n used = search (rules)

  -- if each known word was in use or was one of the numbers
  pub known_used : ((n : ℕ) → is_some (word_of d n) ≡ true → (in_use n ≡ true) ⊎ (has_number numbers n ≡ true)) → (n : ℕ) → is_some (word_of e n) ≡ true → in_use n ≡ true
  known_used either n some = search (rules, both_ways, word_before)
