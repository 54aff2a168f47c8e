-- What a search finds of words: their numbers, and those of all that they entail.
use Rattle.std.specs.Prelude.{◌≡◌, ℕ, ◌||◌, List, length}
use Rattle.lis_dict.specs.Dict.{word_of}
use Rattle.lis_ext.specs.Numbers.{numbers_where}
use Rattle.lis_taxonomy.specs.Search.{AreBelow, is_found}
use Rattle.lis_model.specs.State.{all_up}
use Rattle.lis_kept.specs.Metadata.{Metadata}
use Rattle.lis_kept.specs.Telling.{declared_of, axioms_of}
use Rattle.lis_store.specs.Adding.{is_one_of}

-- the numbers of these words are found too, of those that have one
abbrev pub FindsWords : Metadata → List (List ℕ) → List ℕ → List ℕ → Type 0
FindsWords k words old found = (n : ℕ) → is_found found n ≡ (is_found old n || is_one_of words (word_of k.dict n))

-- just the numbers of what these words entail are found
pub record FindsAll (k : Metadata) (words : List (List ℕ)) (found : List ℕ) : Type 0 where
  pub below : AreBelow k.limits.props found
  pub named : (n : ℕ) → is_found found n ≡ is_one_of (all_up (declared_of k) (axioms_of k) words) (word_of k.dict n)
  pub count : length found ≡ length (numbers_where k.limits.props (is_found found))
