-- What commands are refused for, by what memory keeps.
use Rattle.std.specs.Prelude.{◌≡◌, ℕ, ◌+◌, nat_lt, Bool, true, false, not, Option, Some, None, List, [], ◌∷◌, length, count_by, ◌++◌}
use Rattle.std.specs.List.{list_any, list_all}
use Rattle.lis_grammar.specs.Formula.{Formula}
use Rattle.lis_dict.specs.Dict.{number_of}
use Rattle.lis_words.specs.Words.{same_word, is_built_in, is_valued, test_of}
use Rattle.lis_model.specs.declared.refusal.Refusal.{Refusal}
use Rattle.lis_model.specs.declared.refusal.Refusal.TheVariants.{BuiltIn, NotAssignable, AlreadyDeclared, NotDeclared, InUse, NotAPlace, UnknownProperty, NoAxiomRoom, NoPropertyRoom, LargeDescription}
use Rattle.lis_model.specs.Places.{place_words}
use Rattle.lis_model.specs.Step.{is_plain_place, words_at}
use Rattle.lis_model.specs.Table.{Entry}
use Rattle.lis_model.specs.Listing.{extension}
use Rattle.lis_kept.specs.Metadata.{Metadata}
use Rattle.lis_kept.specs.Telling.{is_declared}
use Rattle.lis_kept.specs.Linking.{is_filled}
use Rattle.lis_kept.specs.Undeclaring.{is_needed}
use Rattle.lis_store.specs.Seen.{table_of}
use Rattle.lis_store.specs.Testing.{has_crowded}
use Rattle.lis_store.specs.Adding.{numbers_named}

-- a file of that name is in the extension of the place
abbrev pub is_among : Metadata → List Formula → List ℕ → Bool
is_among k place name = list_any (λ (file : Entry). same_word file.name name) (extension (table_of k) place)

-- whether a word is new, and the place under which it would be declared is one of plain declared words
abbrev pub place_checks : Metadata → List Formula → List ℕ → List (Bool × Refusal)
place_checks k place word =
    (is_built_in word, BuiltIn)
    ∷ (is_valued word, NotAssignable)
    ∷ (is_declared k word, AlreadyDeclared)
    ∷ (not (is_plain_place (place_words place)), NotAPlace)
    ∷ (not (list_all (is_declared k) (words_at place)), UnknownProperty)
    ∷ []

-- whether there is room for the word, for this many axioms, and for what the files that meet the word gain under the words of these numbers
abbrev pub room_checks : Metadata → List ℕ → ℕ → List ℕ → List (Bool × Refusal)
room_checks k word axioms numbers =
    (nat_lt k.limits.props (count_by is_filled k.axioms + axioms), NoAxiomRoom)
    ∷ (nat_lt k.limits.props (length k.dict.entries + 1), NoPropertyRoom)
    ∷ (has_crowded k (test_of word) numbers, LargeDescription)
    ∷ []

-- the row of `mkdir`
abbrev pub word_checks : Metadata → List Formula → List ℕ → List (Bool × Refusal)
word_checks k place word = place_checks k place word ++ room_checks k word (length (words_at place)) (numbers_named k.dict (words_at place))

-- a declared word, with its number, that nothing needs
pub record IsUndeclarable (k : Metadata) (word : List ℕ) (number : ℕ) : Type 0 where
  pub numbered : number_of k.dict word ≡ Some number
  pub declared : is_declared k word ≡ true
  pub unneeded : is_needed k number ≡ false

-- the word has a number, and is needed
abbrev pub is_needed_by : Metadata → Option ℕ → Bool
is_needed_by k None = false
is_needed_by k (Some number) = is_needed k number

-- the row of `rmdir`
abbrev pub undeclare_checks : Metadata → List ℕ → List (Bool × Refusal)
undeclare_checks k word =
    (is_built_in word, BuiltIn)
    ∷ (is_valued word, NotAssignable)
    ∷ (not (is_declared k word), NotDeclared)
    ∷ (is_needed_by k (number_of k.dict word), InUse)
    ∷ []
