-- A file that replaces another.
use Rattle.std.specs.Prelude.{◌≡◌, ◌≢◌, ℕ, ◌≤◌, Some, None, List, length, map, filter, IsTrue}
use Rattle.std.specs.List.{list_all}
use Rattle.lis_limits.specs.declared.TheConstants.{MAX_ASSIGNED, MAX_DESCRIPTION}
use Rattle.lis_graph.specs.Graph.{is_rising}
use Rattle.lis_catalog.specs.Catalog.{rec_at, slot_of}
use Rattle.lis_fields.specs.Records.{FileRecord}
use Rattle.lis_words.specs.Words.{is_built_in, is_file_name, word_cmp}
use Rattle.lis_model.specs.Sets.{with_words}
use Rattle.lis_model.specs.State.{is_assignable, file_limit}
use Rattle.lis_kept.specs.Metadata.{Metadata}
use Rattle.lis_kept.specs.Telling.{declared_of, is_used}
use Rattle.lis_kept.specs.Forgetting.{emptied}
use Rattle.lis_store.specs.Drafts.{Draft}
use Rattle.lis_store.specs.Admitting.{described_by}

-- the known words that are in use without the file in the slot
abbrev pub words_without : Metadata → ℕ → List (List ℕ)
words_without k slot = map (λ (e : List ℕ × ℕ). e.0) (filter (λ (e : List ℕ × ℕ). is_used (emptied k slot) e.1) k.dict.entries)

-- the words that would be known with a file instead of the one in the slot
abbrev pub known_instead : Metadata → ℕ → Draft → List (List ℕ)
known_instead k slot draft = with_words (words_without k slot) (described_by k draft)

-- A file that may replace the one in the slot.
pub record MayReplace (k : Metadata) (slot : ℕ) (rec : FileRecord) (draft : Draft) : Type 0 where
  pub there : rec_at k.catalog slot ≡ Some rec
  pub name : IsTrue (is_file_name draft.name)
  pub new : draft.name ≢ rec.name → slot_of k.catalog draft.name ≡ None
  pub set : IsTrue (is_rising word_cmp draft.assigned)
  pub assignable : IsTrue (list_all (is_assignable (declared_of k)) draft.assigned)
  pub few : length draft.assigned ≤ MAX_ASSIGNED
  pub own : IsTrue (list_all is_built_in draft.own)
  pub few_own : length draft.own ≤ MAX_DESCRIPTION
  pub short : length (described_by k draft) ≤ MAX_DESCRIPTION
  pub room : length (known_instead k slot draft) ≤ k.limits.props
  pub small : draft.size ≤ file_limit k.limits
