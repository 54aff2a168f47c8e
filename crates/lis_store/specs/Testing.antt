-- Tests that are declared and removed: what descriptions gain and lose.
use Rattle.std.specs.Prelude.{◌-◌, ℕ, ◌==◌, nat_lt, Bool, false, not, ◌&&◌, Option, None, List, [], length, filter, ◌≡◌, ◌<◌, ◌≤◌, ◌∷◌, IsTrue}
use Rattle.std.specs.List.{list_any, range_with_len}
use Rattle.lis_limits.specs.declared.TheConstants.{MAX_DESCRIPTION, MAX_NODES}
use Rattle.lis_ext.specs.Ext.{set_of as numbers_at}
use Rattle.lis_words.specs.declared.test.Test.{Test}
use Rattle.lis_words.specs.Words.{test_of}
use Rattle.lis_kept.specs.Metadata.{Metadata}
use Rattle.lis_kept.specs.Sound.{AreSound}
use Rattle.lis_kept.specs.Under.{DeclaresUnder, MayStandUnder}
use Rattle.lis_kept.specs.Undeclaring.{Undeclares}
use Rattle.lis_store.specs.Closing.{is_met_at, is_gained, anew, wider}
use Rattle.lis_store.specs.Redescribing.{Redescribes}
use Rattle.lis_dict.specs.Dict.{number_of}
use Rattle.lis_model.specs.State.{is_declarable}
use Rattle.lis_kept.specs.Telling.{words_told}
use Rattle.lis_store.specs.Placing.{AreNumbersOf}

-- ---- a new test
-- a file meets the test, and would have too many words with the test and with what it gains
abbrev pub is_crowded : Metadata → Option Test → List ℕ → ℕ → Bool
is_crowded k test numbers slot = is_met_at k test slot && nat_lt (MAX_DESCRIPTION - 1) (length (wider k (is_gained k numbers) slot))

abbrev pub has_crowded : Metadata → Option Test → List ℕ → Bool
has_crowded k test numbers = list_any (is_crowded k test numbers) (range_with_len 0 k.limits.files)

-- The word may be declared under the words of these numbers: it is a new one, and there is room for it.
pub record MayDeclare (k : Metadata) (word : List ℕ) (numbers : List ℕ) : Type 0 where
  pub form : IsTrue (is_declarable word)
  pub new : number_of k.dict word ≡ None
  pub room : length k.dict.entries < k.limits.props
  pub under : MayStandUnder numbers k
  pub are : AreNumbersOf k (words_told k.dict numbers) numbers
  pub few : has_crowded k (test_of word) numbers ≡ false
  pub short : length numbers ≤ MAX_NODES

-- The description in a slot, if the number is that of a new test: a file that meets the test gets it, and all that its words then entail.
abbrev pub tested : Metadata → Option Test → ℕ → ℕ → List ℕ
tested k test number = anew k (is_met_at k test) (λ slot. number ∷ numbers_at k.ext slot)

-- The word is declared under others, and files that meet it get it.
pub record DeclaresTested (word : List ℕ) (rights : List ℕ) (p q : Metadata) : Type 0 where
  pub made : Metadata
  pub stands : DeclaresUnder word rights p made
  pub sound : AreSound made
  pub gives : Redescribes (tested made (test_of word) stands.declares.number) made.limits.files made q

-- ---- a word whose declaration is removed
-- the description in a slot without a number
abbrev pub without_number : Metadata → ℕ → ℕ → List ℕ
without_number k number slot = filter (λ n. not (n == number)) (numbers_at k.ext slot)

-- the metadata without all descriptions
abbrev pub undescribed : Metadata → Metadata
undescribed k = record k { ext = record k.ext { sets = [] } }

-- No description has the number any more, and then its word is no longer declared.
pub record UndeclaresUnmet (number : ℕ) (p q : Metadata) : Type 0 where
  pub made : Metadata
  pub takes : Redescribes (without_number p number) p.limits.files p made
  pub sound : AreSound made
  pub undeclares : Undeclares number made q
