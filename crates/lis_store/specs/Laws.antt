-- Laws on images that represent a state.
use Rattle.std.specs.Prelude.{◌≡◌, ℕ, ◌≤◌, List, Some, length, IsTrue, IsSomeAnd}
use Rattle.lis_limits.specs.declared.TheConstants.{BLOCK_LEN}
use Rattle.lis_ports.specs.Meaning.{Meaning}
use Rattle.lis_ports.specs.Runs.{Always, IsSettled}
use Rattle.lis_ports.specs.Bytes.{part}
use Rattle.lis_journal.specs.declared.layout.Layout.{Layout}
use Rattle.lis_journal.specs.Images.{StandsFor, StandsBut}
use Rattle.lis_content.specs.Content.{are_free}
use Rattle.lis_content.specs.Placing.{homes_of}
use Rattle.lis_catalog.specs.Catalog.{slot_of, rec_at}
use Rattle.lis_fields.specs.Records.{FileRecord}
use Rattle.lis_fields.specs.Layouts.{SpellsSuper}
use Rattle.lis_model.specs.declared.limits.Limits.{Limits}
use Rattle.lis_model.specs.Image.{data_start}
use Rattle.lis_kept.specs.Image.{image_layout}
use Rattle.lis_model.specs.Ranges.{are_in_range}
use Rattle.lis_model.specs.State.{State, empty_state}
use Rattle.lis_model.specs.Changes.{file_of}
use Rattle.lis_model.specs.Step.{Situation, no_payload, create, add}
use Rattle.lis_model.specs.Table.{table}
use Rattle.lis_kept.specs.Areas.{IsWritten}
use Rattle.lis_kept.specs.Sound.{AreSound, FreeSlotsAreEmpty}
use Rattle.lis_kept.specs.Telling.{words_told, axioms_of, Tells}
use Rattle.lis_store.specs.Blank.{IsBlank}
use Rattle.lis_store.specs.Stands.{Stands}
use Rattle.lis_store.specs.Stored.{Stored, PairsAreApart, IsSound, StoreFits, empty_stored}
use Rattle.lis_store.specs.Seen.{table_of}
use Rattle.lis_store.specs.Counting.{CountsState}

-- an image represents at most one state
abbrev pub OneState : Type 0
OneState = (image : List ℕ) (s t : State) → Stands image s → Stands image t → s ≡ t

-- if a store fits a disk at a state, the bytes as they read represent the state, and so does every image
abbrev pub FittingStoresStand : Meaning → Type 0
FittingStoresStand m = (k : Stored) (s : State) → IsSound k → StoreFits k m s → Always m (λ image. Stands image s)

-- if a store fits a disk at a state, truth and listings see of the store what they see of the state
abbrev pub FittingStoresTell : Meaning → Type 0
FittingStoresTell m = (k : Stored) (s : State) → IsSound k → StoreFits k m s → table_of k.metadata ≡ table s

-- and a file has as many bytes as its record says
abbrev pub FittingStoresHold : Meaning → Type 0
FittingStoresHold m =
    (k : Stored) (s : State) → IsSound k → StoreFits k m s → (name : List ℕ) (slot : ℕ) → slot_of k.metadata.catalog name ≡ Some slot
    → IsSomeAnd (rec_at k.metadata.catalog slot) (λ (rec : FileRecord). length (file_of s.files name).bytes ≡ rec.size)

-- it has as many files, words, axioms and free blocks as the state
abbrev pub FittingStoresCount : Meaning → Type 0
FittingStoresCount m = (k : Stored) (s : State) → IsSound k → StoreFits k m s → CountsState k.metadata s

-- and its axioms are those of the state
abbrev pub FittingStoresHaveAxioms : Meaning → Type 0
FittingStoresHaveAxioms m = (k : Stored) (s : State) → IsSound k → StoreFits k m s → axioms_of k.metadata ≡ s.axioms

-- and the assigned words of each file are those that its record lists
abbrev pub FittingStoresHaveTags : Meaning → Type 0
FittingStoresHaveTags m =
    (k : Stored) (s : State) → IsSound k → StoreFits k m s → (name : List ℕ) (slot : ℕ) → slot_of k.metadata.catalog name ≡ Some slot
    → IsSomeAnd (rec_at k.metadata.catalog slot) (λ (rec : FileRecord). words_told k.metadata.dict rec.tags ≡ (file_of s.files name).assigned)

-- the metadata of an empty store is well formed
abbrev pub EmptyStoresAreSound : Type 0
EmptyStoresAreSound = (limits : Limits) (blocks : ℕ) → IsTrue (are_in_range limits) → data_start limits ≤ blocks → IsSound (empty_stored limits blocks)

-- A store without words and files fits an honest disk with one image, if this image is a super block and otherwise blank.
abbrev pub EmptyStoresFit : Meaning → Type 0
EmptyStoresFit m =
    (limits : Limits) (blocks : ℕ) (image : List ℕ) → IsTrue (are_in_range limits) → data_start limits ≤ blocks → IsTrue m.is_honest → IsSettled m image
    → SpellsSuper limits (part 0 BLOCK_LEN image) → IsBlank limits image → StoreFits (empty_stored limits blocks) m (empty_state limits)

-- While contents are placed in free blocks the image represents the state as before, whatever these blocks hold.
abbrev pub PlacedStand : Type 0
PlacedStand =
    (k : Stored) (kept : ℕ → List ℕ) (blocks : List ℕ) (s : State) → IsSound k → Tells k.metadata kept s → IsWritten k.metadata kept
    → IsTrue (are_free k.metadata.taken blocks)
    → (image : List ℕ) → StandsBut k.journal.layout (homes_of (data_start k.metadata.limits) blocks) kept image → Stands image s

-- If memory represents t by these blocks, and what memory keeps is written in them, each image that has these blocks represents t.
abbrev pub ChangesStand : Type 0
ChangesStand =
    (new : Stored) (layout : Layout) (kept : ℕ → List ℕ) (t : State) → AreSound new.metadata → FreeSlotsAreEmpty new.metadata → PairsAreApart new.metadata
    → Tells new.metadata kept t → IsWritten new.metadata kept → layout ≡ image_layout new.metadata.limits
    → (image : List ℕ) → StandsFor layout kept image → Stands image t

-- to create a file is to add one without bytes
abbrev pub CreateIsAdd : Type 0
CreateIsAdd = (now : Situation) (name : List ℕ) (words : List (List ℕ)) → create now name words ≡ add now name words no_payload
