-- How frames make the entries that a contract sees. No public clause cites this module.
use Rattle.std.specs.Prelude.{◌≡◌, ◌≢◌, ℕ, zero, suc, ◌+◌, ◌*◌, ◌≤◌, ◌<◌, nat_lt, List, [], ◌∷◌, length, map, unwrap_or, IsTrue}
use Rattle.std.specs.List.{list_all}
use Rattle.lis_limits.specs.declared.TheConstants.{BLOCK_LEN, GATES}
use Rattle.lis_region.specs.Region as region
use Rattle.lis_journal.specs.declared.stage.Staged.{Staged}
use Rattle.lis_journal.specs.declared.layout.Layout.{Layout}
use Rattle.lis_journal.specs.declared.layout.Capacity.{Capacity}
use Rattle.lis_journal.specs.Record.{homes_start, header_blocks, record_len, HomeBlock}
use Rattle.lis_journal.specs.Journal.{OpenRecords}
use Rattle.lis_journal.specs.Staging.{Staging, IsStaging}

abbrev pub bytes_at : region.Region ℕ → ℕ → List ℕ
bytes_at r frame = unwrap_or (region.get r frame) []

abbrev pub entry_of : region.Region ℕ → Staged → HomeBlock
entry_of r s = record { home = s.home; bytes = bytes_at r s.frame }

abbrev pub entries_of : region.Region ℕ → List Staged → List HomeBlock
entries_of r staged = map (entry_of r) staged

abbrev pub staging_of : region.Region ℕ → List Staged → Layout → ℕ → Staging
staging_of r staged layout capacity = record { layout = layout; capacity = capacity; entries = entries_of r staged }

-- no block is in this frame
abbrev pub IsFresh : ℕ → List Staged → Type 0
IsFresh frame [] = Unit {0}
IsFresh frame (s ∷ ss) = (s.frame ≢ frame) × IsFresh frame ss

-- each block is in a separate frame
abbrev pub AreApart : List Staged → Type 0
AreApart [] = Unit {0}
AreApart (s ∷ ss) = IsFresh s.frame ss × AreApart ss

pub record IsStage (r : region.Region ℕ) (staged : List Staged) (room : ℕ) (layout : Layout) (capacity : ℕ) : Type 0 where
  pub staging : IsStaging (staging_of r staged layout capacity)
  pub wide : r.width ≡ BLOCK_LEN
  pub apart : AreApart staged
  pub counted : region.free_frames r + length staged ≡ capacity
  pub has_room : capacity ≤ room

abbrev pub home_list : List Staged → List ℕ
home_list staged = map (λ s. s.home) staged

-- a block is staged at this index, and those before it have lower homes
abbrev pub FoundAt : ℕ → ℕ → List Staged → Type 0
FoundAt n k [] = ⊥
FoundAt n zero (s ∷ ss) = s.home ≡ n
FoundAt n (suc k) (s ∷ ss) = (s.home < n) × FoundAt n k ss

-- a block that is not staged belongs at this index
abbrev pub PlaceFor : ℕ → ℕ → List Staged → Type 0
PlaceFor n zero [] = Unit {0}
PlaceFor n zero (s ∷ ss) = n < s.home
PlaceFor n (suc k) [] = ⊥
PlaceFor n (suc k) (s ∷ ss) = (s.home < n) × PlaceFor n k ss

-- the open records of an image of this layout
pub record Log : Type 0 where
  pub layout : Layout
  pub records : OpenRecords

-- Each record takes at least one block more than it has contents. As many blocks as all records can have contents can be in memory.
pub record IsLog (log : Log) (capacity : ℕ) : Type 0 where
  pub enough : homes_start log.layout < log.layout.blocks
  pub few : log.records.count ≤ GATES
  pub fits : log.records.next ≤ homes_start log.layout
  pub room : length log.records.latest + log.records.count + 2 ≤ log.records.next
  pub none : log.records.count ≡ 0 → log.records.next ≤ 2
  pub frames : log.layout.records ≤ capacity + 1

-- the parts of a journal fit together
pub record IsJournal (layout : Layout) (capacity : Capacity) (log : Log) (header placed : List ℕ) (room : ℕ) : Type 0 where
  pub enough : homes_start layout < layout.blocks
  pub same : log.layout ≡ layout
  pub fits : record_len capacity.staged ≤ layout.records
  pub header_len : length header ≡ BLOCK_LEN * header_blocks layout.records
  pub few : length placed ≤ capacity.placed
  pub has_room : capacity.placed ≤ room
  pub within : IsTrue (list_all (λ n. nat_lt n layout.blocks) placed)
