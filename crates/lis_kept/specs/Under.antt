-- A word that is declared under others: an axiom leads from it to each of them.
use Rattle.std.specs.Prelude.{◌≡◌, ℕ, ◌+◌, ◌≤◌, Bool, false, Option, Some, None, List, [], ◌∷◌, length, count_by, IsTrue}
use Rattle.std.specs.List.{list_all}
use Rattle.lis_dict.specs.Dict.{word_of}
use Rattle.lis_words.specs.Words.{is_plain_word}
use Rattle.lis_kept.specs.Metadata.{Metadata}
use Rattle.lis_kept.specs.Changes.{Declares}
use Rattle.lis_kept.specs.Linking.{is_filled, Links}
use Rattle.lis_model.specs.Sets.{are_distinct}

-- axioms from one number to each of these, in sequence
abbrev pub LinksEach : ℕ → List ℕ → Metadata → Metadata → Type 0
LinksEach left [] p q = q ≡ p
LinksEach left (right ∷ rights) p q = (mid : Metadata) × Links left right p mid × LinksEach left rights mid q

-- the number has a plain word
abbrev pub is_plain_by : Option (List ℕ) → Bool
is_plain_by None = false
is_plain_by (Some word) = is_plain_word word

-- A word may be declared under the words of these numbers: they are plain, each is named once, and a slot is free for each axiom.
pub record MayStandUnder (rights : List ℕ) (k : Metadata) : Type 0 where
  pub plain : IsTrue (list_all (λ n. is_plain_by (word_of k.dict n)) rights)
  pub apart : IsTrue (are_distinct rights)
  pub room : count_by is_filled k.axioms + length rights ≤ k.limits.props

-- The word is declared, and then an axiom leads from it to each of these.
pub record DeclaresUnder (word : List ℕ) (rights : List ℕ) (p q : Metadata) : Type 0 where
  pub mid : Metadata
  pub declares : Declares word p mid
  pub links : LinksEach declares.number rights mid q
