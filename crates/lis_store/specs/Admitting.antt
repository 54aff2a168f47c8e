-- What a new file is refused for, by what a store keeps.
use Rattle.std.specs.Prelude.{◌≡◌, ℕ, ◌≤◌, ◌<◌, nat_lt, nat_le, Bool, not, is_some, None, List, [], ◌∷◌, ◌++◌, length, IsTrue}
use Rattle.std.specs.List.{list_any, list_all}
use Rattle.lis_limits.specs.declared.TheConstants.{MAX_ASSIGNED, MAX_DESCRIPTION}
use Rattle.lis_graph.specs.Graph.{is_rising}
use Rattle.lis_blockmap.specs.Bitmap.{free_count}
use Rattle.lis_dict.specs.Dict.{words}
use Rattle.lis_catalog.specs.Catalog.{slot_of}
use Rattle.lis_grammar.specs.Formula.{Formula}
use Rattle.lis_words.specs.Words.{is_built_in, is_file_name, word_cmp}
use Rattle.lis_model.specs.declared.refusal.Refusal.{Refusal}
use Rattle.lis_model.specs.declared.refusal.Refusal.TheVariants.{UnknownProperty, NotAPlace, NameTaken, NotAssignable, TooManyAssigned, LargeDescription, LargeFile, NoFileRoom, NoPropertyRoom, NoSpace, BuiltIn}
use Rattle.lis_model.specs.Sets.{with_words}
use Rattle.lis_model.specs.State.{File, all_up, is_assignable, file_limit, blocks_taken}
use Rattle.lis_model.specs.Changes.{new_file}
use Rattle.lis_model.specs.Places.{place_words}
use Rattle.lis_model.specs.Step.{is_head_or_test, assigned_at}
use Rattle.lis_model.specs.Tests.{met_tests}
use Rattle.lis_kept.specs.Metadata.{Metadata}
use Rattle.lis_kept.specs.Telling.{declared_of, axioms_of}
use Rattle.lis_store.specs.Drafts.{Draft, draft_of}

-- a file's own words: those that it was given, those that are derived from it, and the declared tests that it meets
abbrev pub described_words : Metadata → Draft → List (List ℕ)
described_words k draft = draft.assigned ++ draft.own ++ met_tests (declared_of k) draft.size

-- the description that a file would have
abbrev pub described_by : Metadata → Draft → List (List ℕ)
described_by k draft = all_up (declared_of k) (axioms_of k) (described_words k draft)

-- the words that would be known with it
abbrev pub known_with : Metadata → Draft → List (List ℕ)
known_with k draft = with_words (words k.dict) (described_by k draft)

-- what the name, the place and the named words are refused for
abbrev pub named_checks : Metadata → List Formula → List (List ℕ) → File → List (Bool × Refusal)
named_checks k place words file =
    (is_some (slot_of k.catalog file.name), NameTaken)
    ∷ (not (is_some (place_words place)), NotAPlace)
    ∷ (list_any is_built_in words, BuiltIn)
    ∷ (list_any is_head_or_test words, NotAssignable)
    ∷ (not (list_all (is_assignable (declared_of k)) file.assigned), UnknownProperty)
    ∷ (nat_lt MAX_ASSIGNED (length file.assigned), TooManyAssigned)
    ∷ []

-- whether there is room for the file, and for its words
abbrev pub room_checks : Metadata → Draft → ℕ → List (Bool × Refusal)
room_checks k draft size =
    (nat_le k.limits.files (length k.catalog.entries), NoFileRoom)
    ∷ (nat_lt MAX_DESCRIPTION (length (described_by k draft)), LargeDescription)
    ∷ (nat_lt k.limits.props (length (known_with k draft)), NoPropertyRoom)
    ∷ (nat_lt (free_count k.taken) (blocks_taken k.limits.version size), NoSpace)
    ∷ []

abbrev pub file_checks : Metadata → List Formula → List (List ℕ) → File → ℕ → List (Bool × Refusal)
file_checks k place words file size =
    (nat_lt (file_limit k.limits) size, LargeFile) ∷ named_checks k place words file ++ room_checks k (draft_of file) size

-- the row of `add`
abbrev pub add_checks_of : Metadata → List Formula → List ℕ → List (List ℕ) → List ℕ → ℕ → List (Bool × Refusal)
add_checks_of k place name words bytes size = file_checks k place words (new_file name (assigned_at place words) bytes) size

-- A file that no refusal of the row applies to.
pub record IsAdmitted (k : Metadata) (draft : Draft) : Type 0 where
  pub name : IsTrue (is_file_name draft.name)
  pub new : slot_of k.catalog draft.name ≡ None
  pub set : IsTrue (is_rising word_cmp draft.assigned)
  pub assignable : IsTrue (list_all (is_assignable (declared_of k)) draft.assigned)
  pub few : length draft.assigned ≤ MAX_ASSIGNED
  pub own : IsTrue (list_all is_built_in draft.own)
  pub few_own : length draft.own ≤ MAX_DESCRIPTION
  pub slots : length k.catalog.entries < k.limits.files
  pub short : length (described_by k draft) ≤ MAX_DESCRIPTION
  pub room : length (known_with k draft) ≤ k.limits.props
  pub small : draft.size ≤ file_limit k.limits
