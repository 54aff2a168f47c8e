-- What a file is refused for that would move from one place to another, by what a store keeps.
use Rattle.std.specs.Prelude.{ℕ, nat_lt, Bool, not, ◌&&◌, is_some, List, [], ◌∷◌, ◌++◌, length, Result, Ok, Err}
use Rattle.std.specs.List.{list_any, list_all}
use Rattle.lis_limits.specs.declared.TheConstants.{MAX_ASSIGNED}
use Rattle.lis_fields.specs.Records.{FileRecord}
use Rattle.lis_words.specs.Words.{is_built_in, is_head}
use Rattle.lis_grammar.specs.Formula.{Formula}
use Rattle.lis_grammar.specs.Places.{Resolution}
use Rattle.lis_grammar.specs.Places.Resolution.{NewPlace, BeyondLimits, Unreadable}
use Rattle.lis_model.specs.declared.refusal.Refusal.{Refusal}
use Rattle.lis_model.specs.declared.refusal.Refusal.TheVariants.{BadFormula, UnknownProperty, LargeFormula, NotAPlace, NotAssignable, TooManyAssigned, BuiltIn}
use Rattle.lis_model.specs.State.{is_assignable}
use Rattle.lis_model.specs.Places.{place_words}
use Rattle.lis_model.specs.Step.{tags_at, retagged}
use Rattle.lis_kept.specs.Metadata.{Metadata}
use Rattle.lis_kept.specs.Telling.{words_told, declared_of}
use Rattle.lis_store.specs.Drafts.{Draft, drafted, own_kept}
use Rattle.lis_store.specs.Instead.{instead_checks}

-- the place to which a text leads from a place, or why it is refused
abbrev pub place_or_refusal : Resolution → Result (List Formula) Refusal
place_or_refusal Unreadable = Err BadFormula
place_or_refusal BeyondLimits = Err LargeFormula
place_or_refusal (NewPlace place) = Ok place

-- the words of the file of a record, without the tags of one place and with those of another
abbrev pub words_moved : Metadata → FileRecord → List Formula → List Formula → List (List ℕ)
words_moved k rec here there = retagged (words_told k.dict rec.tags) (tags_at here) (tags_at there)

-- the file of a record under a name, with the derived words and their heads that its description has
abbrev pub moved_draft : Metadata → ℕ → FileRecord → List Formula → List Formula → List ℕ → Draft
moved_draft k slot rec here there name = drafted name rec.size (words_moved k rec here there) (own_kept k slot)

-- ---- rows
-- what the words of a text are refused for
abbrev pub text_checks : List (List ℕ) → List (Bool × Refusal)
text_checks words = (list_any is_built_in words, BuiltIn) ∷ (list_any is_head words, NotAssignable) ∷ []

-- what the two places and the words of the text are refused for
abbrev pub places_checks : Metadata → List Formula → List Formula → List (List ℕ) → List (Bool × Refusal)
places_checks k here there words =
    (not (is_some (place_words here) && is_some (place_words there)), NotAPlace)
    ∷ text_checks words
    ++ (not (list_all (is_assignable (declared_of k)) (tags_at there)), UnknownProperty) ∷ []

-- what a file is refused for in the other place, whatever its bytes are
abbrev pub moving_checks : Metadata → List Formula → List Formula → List (List ℕ) → FileRecord → List (Bool × Refusal)
moving_checks k here there words rec = places_checks k here there words ++ (nat_lt MAX_ASSIGNED (length (words_moved k rec here there)), TooManyAssigned) ∷ []

abbrev pub retag_checks : Metadata → List Formula → List Formula → List (List ℕ) → ℕ → FileRecord → Draft → List (Bool × Refusal)
retag_checks k here there words slot rec draft = moving_checks k here there words rec ++ instead_checks k slot draft
