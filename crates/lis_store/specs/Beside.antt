-- The words that would be known with a file that is added, or that replaces another file.
use Rattle.std.specs.Prelude.{ℕ, nat_lt, Bool, not, ◌&&◌, Option, Some, None, List, [], ◌∷◌, length}
use Rattle.lis_limits.specs.declared.TheConstants.{MAX_DESCRIPTION}
use Rattle.lis_dict.specs.Dict.{words}
use Rattle.lis_ext.specs.Ext.{has}
use Rattle.lis_ext.specs.Numbers.{numbers_where}
use Rattle.lis_taxonomy.specs.Search.{is_found}
use Rattle.lis_model.specs.declared.refusal.Refusal.{Refusal}
use Rattle.lis_model.specs.declared.refusal.Refusal.TheVariants.{LargeDescription, NoPropertyRoom}
use Rattle.lis_model.specs.Sets.{with_words}
use Rattle.lis_kept.specs.Metadata.{Metadata}
use Rattle.lis_kept.specs.Telling.{is_used}
use Rattle.lis_kept.specs.Forgetting.{emptied}
use Rattle.lis_store.specs.Drafts.{Draft}
use Rattle.lis_store.specs.Admitting.{described_by}
use Rattle.lis_store.specs.Replacing.{words_without}

-- the known words, except those that only the file in the slot uses, if a slot is given
abbrev pub words_beside : Metadata → Option ℕ → List (List ℕ)
words_beside k None = words k.dict
words_beside k (Some slot) = words_without k slot

-- with the words of a file's description
abbrev pub known_beside : Metadata → Option ℕ → Draft → List (List ℕ)
known_beside k old draft = with_words (words_beside k old) (described_by k draft)

-- what the words of the file are refused for
abbrev pub words_checks : Metadata → Option ℕ → Draft → List (Bool × Refusal)
words_checks k old draft =
    (nat_lt MAX_DESCRIPTION (length (described_by k draft)), LargeDescription)
    ∷ (nat_lt k.limits.props (length (known_beside k old draft)), NoPropertyRoom)
    ∷ []

-- the description in the slot has the number, which is not one of those that are found, and nothing else uses it
abbrev pub is_leaving : Metadata → List ℕ → ℕ → ℕ → Bool
is_leaving k found slot n = has k.ext n slot && not (is_found found n) && not (is_used (emptied k slot) n)

-- the numbers that leave with the description in the slot, if one is given
abbrev pub leaving : Metadata → List ℕ → Option ℕ → List ℕ
leaving k found None = []
leaving k found (Some slot) = numbers_where k.limits.props (is_leaving k found slot)
