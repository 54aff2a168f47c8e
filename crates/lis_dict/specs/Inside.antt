-- How a dictionary is held. No public clause cites this module.
use Rattle.std.specs.Prelude.{◌≡◌, ℕ, ◌<◌, ◌≤◌, Option, None, is_some, List, [], length, map, count_by, slice_index_or, unwrap_or, IsTrue}
use Rattle.lis_limits.specs.declared.TheConstants.{V3_MAX_PROPS}
use Rattle.lis_dict.specs.Dict.{Dict, IsDict, word_of}

-- by number, the word that has it
abbrev pub Holders : Type 0
Holders = List (Option (List ℕ))

-- the word that has the number
abbrev pub word_in : Holders → ℕ → List ℕ
word_in holders number = unwrap_or (slice_index_or holders number None) []

-- the word and its number
abbrev pub entry_in : Holders → ℕ → List ℕ × ℕ
entry_in holders number = (word_in holders number, number)

-- the dictionary of these numbers, in the order of their words
abbrev pub dict_of : ℕ → Holders → List ℕ → Dict
dict_of props holders order = record { props = props; entries = map (entry_in holders) order }

-- what the parts keep, where `room` is how many numbers the order has memory for
pub record IsSoundDict (props : ℕ) (holders : Holders) (order : List ℕ) (room : ℕ) : Type 0 where
  -- each number stands once in the order, and the words rise
  pub dict : IsDict (dict_of props holders order)
  pub limit : props ≤ V3_MAX_PROPS
  pub table : length holders ≡ props
  -- just the numbers in the order have a word
  pub told : (n : ℕ) → slice_index_or holders n None ≡ word_of (dict_of props holders order) n
  pub counted : count_by is_some holders ≡ length order
  pub has_room : props ≤ room

-- all numbers below this one have words
abbrev pub AreTaken : Holders → ℕ → Type 0
AreTaken holders free_from = (n : ℕ) → n < free_from → IsTrue (is_some (slice_index_or holders n None))

-- what the fields keep: the parts, and where a search for a free number may start
pub record IsKeptDict (props free_from : ℕ) (holders : Holders) (order : List ℕ) (room : ℕ) : Type 0 where
  pub sound : IsSoundDict props holders order room
  pub taken : AreTaken holders free_from
