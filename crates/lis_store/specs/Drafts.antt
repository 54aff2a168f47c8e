-- Files as a change describes them: how many bytes a file has, and which words are derived from the bytes and the name, but not the bytes.
use Rattle.std.specs.Prelude.{◌≡◌, ℕ, List, ◌++◌, length, filter}
use Rattle.std.specs.List.{flat_map}
use Rattle.std.specs.Option.{option_to_list}
use Rattle.lis_dict.specs.Dict.{word_of}
use Rattle.lis_ext.specs.Ext.{set_of}
use Rattle.lis_words.specs.Words.{is_built_in}
use Rattle.lis_model.specs.Derived.{derived_words}
use Rattle.lis_model.specs.State.{File, all_up, file_words}
use Rattle.lis_model.specs.Tests.{met_tests}
use Rattle.lis_kept.specs.Metadata.{Metadata}

pub record Draft : Type 0 where
  pub name : List ℕ
  pub size : ℕ
  pub assigned : List (List ℕ)
  pub own : List (List ℕ)

abbrev pub drafted : List ℕ → ℕ → List (List ℕ) → List (List ℕ) → Draft
drafted name size assigned own = record { name = name; size = size; assigned = assigned; own = own }

-- a file, with these words instead of those derived from it
abbrev pub with_own : File → List (List ℕ) → Draft
with_own file own = drafted file.name (length file.bytes) file.assigned own

-- with the words that are derived from it
abbrev pub draft_of : File → Draft
draft_of file = with_own file (derived_words file.name file.bytes)

-- These words, instead of those derived from a file, give it the description that it has.
abbrev pub AreOwnWords : List (List ℕ) → List (List ℕ × List ℕ) → List (List ℕ) → File → Type 0
AreOwnWords declared axioms own file = all_up declared axioms (file.assigned ++ own ++ met_tests declared (length file.bytes)) ≡ file_words declared axioms file

-- ---- the derived words in a description
-- the word of a number, if it is built in
abbrev pub own_word : Metadata → ℕ → List (List ℕ)
own_word k n = filter is_built_in (option_to_list (word_of k.dict n))

-- In the description in a slot these are the words derived from its file, and their heads. None of them can be assigned to a file, and no
-- word that can be assigned leads to one.
abbrev pub own_kept : Metadata → ℕ → List (List ℕ)
own_kept k slot = flat_map (own_word k) (set_of k.ext slot)
