-- An axiom that is removed, and what remains of the descriptions that have its left word.
use Rattle.std.specs.Prelude.{◌≡◌, ℕ, true, Option, Some, None, List, [], ◌∷◌}
use Rattle.std.specs.Option.{option_to_list}
use Rattle.lis_dict.specs.Dict.{Dict, word_of}
use Rattle.lis_words.specs.Words.{is_plain_word}
use Rattle.lis_kept.specs.Metadata.{Metadata}
use Rattle.lis_kept.specs.Edges.{head_number}
use Rattle.lis_kept.specs.Sound.{AreSound}
use Rattle.lis_kept.specs.Links.{has_pair}
use Rattle.lis_kept.specs.Linking.{Unlinks}
use Rattle.lis_kept.specs.Changes.{Forgets}
use Rattle.lis_store.specs.Closing.{rebuilt}
use Rattle.lis_store.specs.declared.closing.Rebuild.TheVariants.{Losing}
use Rattle.lis_store.specs.Redescribing.{Redescribes}

-- ---- the axiom
-- there is this axiom, and it leads from the word of the one number to that of the other, which is plain
pub record IsAxiomAt (k : Metadata) (l r : List ℕ) (left right : ℕ) : Type 0 where
  pub is_left : word_of k.dict left ≡ Some l
  pub is_right : word_of k.dict right ≡ Some r
  pub plain : is_plain_word r ≡ true
  pub there : has_pair k.axioms left right ≡ true

-- ---- words
abbrev pub heads_by : Dict → Option (List ℕ) → List ℕ
heads_by dict None = []
heads_by dict (Some word) = option_to_list (head_number dict word)

-- a left side, and its head
abbrev pub with_head : Dict → ℕ → List ℕ
with_head dict left = left ∷ heads_by dict (word_of dict left)

-- The axiom is removed, then what descriptions have by it alone, and last its left word and the head of that word, if nothing else uses
-- them.
pub record TakesAxiom (left right : ℕ) (p q : Metadata) : Type 0 where
  pub unlinked : Metadata
  pub unlinks : Unlinks left right p unlinked
  pub sound : AreSound unlinked
  pub made : Metadata
  pub lessens : Redescribes (rebuilt unlinked (Losing left right)) unlinked.limits.files unlinked made
  pub forgets : Forgets (with_head p.dict left) made q
