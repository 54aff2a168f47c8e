-- Descriptions that are rebuilt: from some of their numbers, with all that these entail.
use Rattle.std.specs.Prelude.{◌≡◌, ℕ, ◌<◌, IsTrue, length, Bool, true, false, not, ◌&&◌, ◌||◌, if◌then◌else◌, Option, is_some, Some, None, List, [], ◌∷◌, ◌++◌, filter}
use Rattle.std.specs.List.{list_any}
use Rattle.lis_words.specs.declared.test.Test.{Test}
use Rattle.lis_dict.specs.Dict.{word_of}
use Rattle.lis_catalog.specs.Catalog.{rec_at}
use Rattle.lis_ext.specs.Ext.{has, set_of as numbers_at}
use Rattle.lis_ext.specs.Numbers.{numbers_where}
use Rattle.lis_taxonomy.specs.Search.{is_found}
use Rattle.lis_fields.specs.Records.{FileRecord}
use Rattle.lis_model.specs.State.{up}
use Rattle.lis_model.specs.Tests.{is_met}
use Rattle.lis_kept.specs.Metadata.{Metadata}
use Rattle.lis_kept.specs.Telling.{declared_of, axioms_of}
use Rattle.lis_store.specs.Adding.{is_one_of}
use Rattle.lis_store.specs.declared.closing.Rebuild.{Rebuild}
use Rattle.lis_store.specs.declared.closing.Rebuild.TheVariants.{Having, Losing, Meeting}
use Rattle.lis_model.specs.Sets.{has_number}

-- ---- what numbers entail
abbrev pub entails_by : Metadata → Option (List ℕ) → Option (List ℕ) → Bool
entails_by k None q = false
entails_by k (Some p) q = is_one_of (up (declared_of k) (axioms_of k) p) q

-- the word of the one number entails that of the other
abbrev pub is_entailed : Metadata → ℕ → ℕ → Bool
is_entailed k m n = entails_by k (word_of k.dict m) (word_of k.dict n)

-- the word of one of the numbers entails that of this one
abbrev pub is_gained : Metadata → List ℕ → ℕ → Bool
is_gained k numbers n = list_any (λ m. is_entailed k m n) numbers

-- the numbers of all that the words of these entail, in rising order
abbrev pub closure : Metadata → List ℕ → List ℕ
closure k numbers = numbers_where k.limits.props (is_gained k numbers)

-- the found numbers are those of all that the words of these entail
pub record AreGained (k : Metadata) (numbers found : List ℕ) : Type 0 where
  pub gained : (n : ℕ) → n < k.limits.props → is_found found n ≡ is_gained k numbers n
  pub below : (n : ℕ) → IsTrue (is_found found n) → n < k.limits.props
  pub count : length found ≡ length (closure k numbers)

-- the number is that of a word that this one entails
abbrev pub entails_number : Metadata → List ℕ → ℕ → Bool
entails_number k word n = is_one_of (up (declared_of k) (axioms_of k) word) (word_of k.dict n)

-- the word of one of these entails that of the number
abbrev pub is_gained_by : Metadata → List (List ℕ) → ℕ → Bool
is_gained_by k words n = list_any (λ word. entails_number k word n) words

-- the numbers of the description in a slot with those that pass a test
abbrev pub wider : Metadata → (ℕ → Bool) → ℕ → List ℕ
wider k gains slot = numbers_where k.ext.props (λ n. has k.ext n slot || gains n)

-- ---- which descriptions are rebuilt
abbrev pub is_met_by : Option Test → Option FileRecord → Bool
is_met_by test None = false
is_met_by test (Some rec) = is_met test rec.size

-- there is a file in the slot, and its size meets the test
abbrev pub is_met_at : Metadata → Option Test → ℕ → Bool
is_met_at k test slot = is_met_by test (rec_at k.catalog slot)

abbrev pub is_concerned : Metadata → Rebuild → ℕ → Bool
is_concerned k (Having number) slot = has k.ext number slot
is_concerned k (Losing left right) slot = has k.ext left slot
is_concerned k (Meeting test number) slot = is_met_at k (Some test) slot

-- ---- from which numbers
abbrev pub tags_by : Option FileRecord → List ℕ
tags_by None = []
tags_by (Some rec) = rec.tags

-- the numbers of the words that are assigned to the file in a slot
abbrev pub tags_at : Metadata → ℕ → List ℕ
tags_at k slot = tags_by (rec_at k.catalog slot)

-- A number of a description needs no axiom that leads to the right word: its word is assigned to the file, or the right word does not
-- entail it.
abbrev pub stays : Metadata → ℕ → List ℕ → ℕ → Bool
stays k right tags n = has_number tags n || not (is_entailed k right n)

-- a number of the description in a slot is one of those from which it is rebuilt
abbrev pub is_base : Metadata → Rebuild → ℕ → ℕ → Bool
is_base k (Having number) slot n = true
is_base k (Losing left right) slot n = stays k right (tags_at k slot) n
is_base k (Meeting test number) slot n = true

-- a number that it did not have
abbrev pub added : Rebuild → List ℕ
added (Having number) = []
added (Losing left right) = []
added (Meeting test number) = number ∷ []

-- the numbers from which the description in a slot is rebuilt
abbrev pub base_at : Metadata → Rebuild → ℕ → List ℕ
base_at k how slot = added how ++ filter (is_base k how slot) (numbers_at k.ext slot)

-- the numbers that it names have words
abbrev pub has_words : Metadata → Rebuild → Bool
has_words k (Having number) = is_some (word_of k.dict number)
has_words k (Losing left right) = is_some (word_of k.dict left) && is_some (word_of k.dict right)
has_words k (Meeting test number) = is_some (word_of k.dict number)

-- ---- what they are then
abbrev pub anew : Metadata → (ℕ → Bool) → (ℕ → List ℕ) → ℕ → List ℕ
anew k concerned base slot = if concerned slot then closure k (base slot) else numbers_at k.ext slot

abbrev pub rebuilt : Metadata → Rebuild → ℕ → List ℕ
rebuilt k how = anew k (is_concerned k how) (base_at k how)

-- What is found that a description may lose: if it loses an axiom, just what the right number entails; otherwise nothing.
abbrev pub FindsLost : Metadata → Rebuild → List ℕ → Type 0
FindsLost k (Having number) found = found ≡ []
FindsLost k (Losing left right) found = AreGained k (right ∷ []) found
FindsLost k (Meeting test number) found = found ≡ []
