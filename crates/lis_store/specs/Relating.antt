-- What a new axiom is refused for, by what a store keeps.
use Rattle.std.specs.Prelude.{◌≡◌, ℕ, ◌+◌, ◌<◌, ◌≤◌, nat_lt, Bool, true, false, not, ◌&&◌, Option, Some, None, List, [], ◌∷◌, ◌++◌, length, count_by, IsTrue, IsSome}
use Rattle.std.specs.List.{list_any, range_with_len}
use Rattle.lis_limits.specs.declared.TheConstants.{MAX_DESCRIPTION}
use Rattle.lis_dict.specs.Dict.{words, number_of}
use Rattle.lis_ext.specs.Ext.{has, set_of as numbers_at}
use Rattle.lis_ext.specs.Numbers.{has_number}
use Rattle.lis_words.specs.Words.{has_word, is_plain_word}
use Rattle.lis_model.specs.declared.refusal.Refusal.{Refusal}
use Rattle.lis_model.specs.declared.refusal.Refusal.TheVariants.{NotAssignable, UnknownProperty, AxiomThere, Cycle, NoAxiomRoom, NoPropertyRoom, LargeDescription}
use Rattle.lis_model.specs.Sets.{with_words}
use Rattle.lis_model.specs.State.{up, is_nameable}
use Rattle.lis_model.specs.Changes.{has_axiom}
use Rattle.lis_kept.specs.Metadata.{Metadata}
use Rattle.lis_kept.specs.Linking.{is_filled}
use Rattle.lis_kept.specs.Telling.{is_declared, declared_of, axioms_of}
use Rattle.lis_store.specs.Adding.{behind_head}
use Rattle.lis_store.specs.Closing.{is_gained_by, wider}

-- the first word entails the second one
abbrev pub entails_word : Metadata → List ℕ → List ℕ → Bool
entails_word k word other = has_word (up (declared_of k) (axioms_of k) word) other

-- there is a number, and it is one of these
abbrev pub is_number_of : List ℕ → Option ℕ → Bool
is_number_of numbers None = false
is_number_of numbers (Some n) = has_number numbers n

-- the description in the slot has the left word, and would have too many words with all that the right one entails
abbrev pub is_overfull : Metadata → List ℕ → List ℕ → ℕ → Bool
is_overfull k left right slot = is_number_of (numbers_at k.ext slot) (number_of k.dict left) && nat_lt MAX_DESCRIPTION (length (wider k (is_gained_by k (right ∷ [])) slot))

abbrev pub has_overfull : Metadata → List ℕ → List ℕ → Bool
has_overfull k left right = list_any (is_overfull k left right) (range_with_len 0 k.limits.files)

-- what the two words are refused for
abbrev pub pair_checks : Metadata → List ℕ → List ℕ → List (Bool × Refusal)
pair_checks k left right =
    (not (is_plain_word right), NotAssignable)
    ∷ (not (is_declared k right && is_nameable (declared_of k) left), UnknownProperty)
    ∷ (has_axiom (axioms_of k) (left, right), AxiomThere)
    ∷ (entails_word k right left, Cycle)
    ∷ []

-- whether there is room for the axiom, and for what descriptions gain by it
abbrev pub axiom_room_checks : Metadata → List ℕ → List ℕ → List (Bool × Refusal)
axiom_room_checks k left right =
    (nat_lt k.limits.props (count_by is_filled k.axioms + 1), NoAxiomRoom)
    ∷ (nat_lt k.limits.props (length (with_words (words k.dict) (behind_head left))), NoPropertyRoom)
    ∷ (has_overfull k left right, LargeDescription)
    ∷ []

-- the row of `axiom`
abbrev pub axiom_checks_of : Metadata → List ℕ → List ℕ → List (Bool × Refusal)
axiom_checks_of k left right = pair_checks k left right ++ axiom_room_checks k left right

-- A new axiom that no refusal of the row applies to.
pub record MayRelate (k : Metadata) (left right : List ℕ) : Type 0 where
  pub plain : IsTrue (is_plain_word right)
  pub declared : is_declared k right ≡ true
  pub numbered : IsSome (number_of k.dict right)
  pub nameable : IsTrue (is_nameable (declared_of k) left)
  pub new : has_axiom (axioms_of k) (left, right) ≡ false
  pub no_circle : has_word (up (declared_of k) (axioms_of k) right) left ≡ false
  pub slots : count_by is_filled k.axioms < k.limits.props
  pub room : length (with_words (words k.dict) (behind_head left)) ≤ k.limits.props
  -- no description that has the left word becomes too large
  pub short : (n slot : ℕ) → number_of k.dict left ≡ Some n → has k.ext n slot ≡ true → length (wider k (is_gained_by k (right ∷ [])) slot) ≤ MAX_DESCRIPTION
