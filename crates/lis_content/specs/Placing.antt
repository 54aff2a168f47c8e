-- How a placing of a file's bytes ends.
use Rattle.std.specs.Prelude.{◌≡◌, ℕ, ◌+◌, ◌*◌, ◌<◌, ◌≤◌, Bool, true, false, if◌then◌else◌, List, ◌++◌, length, take, drop, map, IsTrue, Result, Ok, Err}
use Rattle.std.specs.List.{range_with_len}
use Rattle.lis_limits.specs.declared.TheConstants.{BLOCK_LEN}
use Rattle.lis_ports.specs.Meaning.{Meaning}
use Rattle.lis_ports.specs.Runs.{Leaves}
use Rattle.lis_ports.specs.Calls.{Rose, OnlyReads}
use Rattle.lis_model.specs.State.{blocks_needed, blocks_taken}
use Rattle.lis_journal.specs.Record.{HomeBlock}
use Rattle.lis_journal.specs.Journal.{Held}
use Rattle.lis_journal.specs.Images.{StandsBut, Fits, KeepsPast, with_kept, with_run}
use Rattle.lis_journal.specs.Staging.{has_entry}
use Rattle.lis_blockmap.specs.Bitmap.{free_count, is_taken}
use Rattle.lis_words.specs.Bytes.{padded}
use Rattle.lis_content.specs.Content.{content, marked, are_free, has_home}
use Rattle.lis_content.specs.Large.{is_large, slot_count, file_content, file_blocks, IsIndexed}
use Rattle.lis_content.specs.declared.fault.PutFault.{PutFault}
use Rattle.lis_content.specs.declared.fault.PutFault.TheVariants.{NoSpace, Disk}
use Rattle.lis_model.specs.Sets.{are_distinct}

-- no free block is staged
abbrev pub AreUnstaged : ℕ → List Bool → List HomeBlock → Type 0
AreUnstaged base taken staged = (n : ℕ) → n < length taken → is_taken taken n ≡ false → has_entry staged (base + n) ≡ false

-- the homes of data blocks
abbrev pub homes_of : ℕ → List ℕ → List ℕ
homes_of base blocks = map (λ b. base + b) blocks

-- These blocks were free, and are taken and written, the last perhaps in part. A crash at any moment leaves an image that represents all
-- others as before, and what follows the image reads as before.
pub record Places (base : ℕ) (taken now_taken : List Bool) (before : Held) (old new : Meaning) (blocks : List ℕ) : Type 0 where
  pub distinct : IsTrue (are_distinct blocks)
  pub were_free : IsTrue (are_free taken blocks)
  pub marks : now_taken ≡ marked taken blocks
  pub len : length now_taken ≡ length taken
  pub counted : free_count now_taken + length blocks ≡ free_count taken
  pub moments : (kept : ℕ → List ℕ) → Fits before old kept → Leaves old new (StandsBut before.layout (homes_of base blocks) kept)
  pub past : (kept : ℕ → List ℕ) → Fits before old kept → KeepsPast before.layout.blocks old new

-- The blocks are placed. What is kept then has P, and is as before except for them.
pub record Lays (base : ℕ) (taken now_taken : List Bool) (before now : Held) (old new : Meaning) (blocks : List ℕ) (P : (ℕ → List ℕ) → Type 0) : Type 0 where
  pub places : Places base taken now_taken before old new blocks
  pub journal : now ≡ record before { records = now.records; placed = homes_of base blocks }
  pub fits : (kept : ℕ → List ℕ) → Fits before old kept → (now_kept : ℕ → List ℕ) × Fits now new now_kept × ((n : ℕ) → has_home base blocks n ≡ false → now_kept n ≡ kept n) × P now_kept

-- A file has these bytes and these blocks by its slot, and well-formed index blocks if it has any.
pub record HasFile (version base : ℕ) (bytes slot blocks : List ℕ) (at : ℕ → List ℕ) : Type 0 where
  pub reads : file_content version base slot (length bytes) at ≡ bytes
  pub index : IsIndexed version base slot (length bytes) at
  pub all : file_blocks version base slot (length bytes) at ≡ blocks

-- The bytes are in blocks that were free, and these blocks are placed. They are counted as from version 2 on; no content of version 1 is
-- placed.
pub record IsPlaced (version base : ℕ) (bytes : List ℕ) (taken now_taken : List Bool) (before now : Held) (old new : Meaning) (slot : List ℕ) : Type 0 where
  pub blocks : List ℕ
  pub lays : Lays base taken now_taken before now old new blocks (HasFile version base bytes slot blocks)
  pub count : length blocks ≡ blocks_taken 2 (length bytes)
  pub slot_len : length slot ≡ slot_count (length bytes)
  pub slot_is : slot ≡ (if is_large (length bytes) then drop (blocks_needed (length bytes)) blocks else blocks)

-- The disk failed: some blocks are taken, and only what is on the disk counts.
pub record IsTornOff (base : ℕ) (taken now_taken : List Bool) (before now : Held) (old new : Meaning) : Type 0 where
  pub blocks : List ℕ
  pub places : Places base taken now_taken before old new blocks
  pub journal : now ≡ record before { records = now.records; placed = now.placed; is_broken = true }

-- Nothing is placed, since too few blocks are free; or the disk failed.
abbrev pub IsUnplaced : ℕ → List ℕ → List Bool → List Bool → Held → Held → Meaning → Meaning → PutFault → Type 0
IsUnplaced base bytes taken now_taken before now old new NoSpace =
    (now_taken ≡ taken) × (now ≡ before) × (free_count taken < blocks_taken 2 (length bytes))
IsUnplaced base bytes taken now_taken before now old new Disk =
    (blocks_taken 2 (length bytes) ≤ free_count taken) × IsTornOff base taken now_taken before now old new

-- A disk fault comes only if the count rose, and at each other result the count stays.
abbrev pub HasPlaceCause : {T : Type 0} → ℕ → ℕ → Result T PutFault → Type 0
HasPlaceCause before now (Ok slot) = now ≡ before
HasPlaceCause before now (Err NoSpace) = now ≡ before
HasPlaceCause before now (Err Disk) = Rose before now

-- Consecutive free blocks are taken.
pub record TakesRow (taken now_taken : List Bool) (n count : ℕ) : Type 0 where
  pub within : n + count ≤ length taken
  pub were_free : (k : ℕ) → n ≤ k → k < n + count → is_taken taken k ≡ false
  pub marks : now_taken ≡ marked taken (range_with_len n count)
  pub counted : free_count now_taken + count ≡ free_count taken

-- The blocks are written, or a write of them was begun.
pub record WritesRow (base : ℕ) (taken now_taken : List Bool) (before : Held) (old new : Meaning) (n count : ℕ) : Type 0 where
  pub row : TakesRow taken now_taken n count
  pub moments : (kept : ℕ → List ℕ) → Fits before old kept → Leaves old new (StandsBut before.layout (range_with_len (base + n) count ++ before.placed) kept)
  pub past : (kept : ℕ → List ℕ) → Fits before old kept → KeepsPast before.layout.blocks old new

-- The blocks are placed, and what is kept is then given by `after`.
pub record RowPlaced (base : ℕ) (taken now_taken : List Bool) (before now : Held) (old new : Meaning) (n count : ℕ) (after : (ℕ → List ℕ) → ℕ → List ℕ) : Type 0 where
  pub writes : WritesRow base taken now_taken before old new n count
  pub journal : now ≡ record before { records = now.records; placed = before.placed ++ range_with_len (base + n) count }
  pub fits : (kept : ℕ → List ℕ) → Fits before old kept → Fits now new (after kept)

-- The disk failed.
pub record RowTorn (base : ℕ) (taken now_taken : List Bool) (before now : Held) (old new : Meaning) : Type 0 where
  pub n : ℕ
  pub count : ℕ
  pub writes : WritesRow base taken now_taken before old new n count
  pub journal : now ≡ record before { records = now.records; is_broken = true }

-- whole blocks of these bytes are placed, one or more
pub record RowOf (base : ℕ) (bytes : List ℕ) (taken now_taken : List Bool) (before now : Held) (old new : Meaning) (n count : ℕ) : Type 0 where
  pub any : 0 < count
  pub few : BLOCK_LEN * count ≤ length bytes
  pub placed : RowPlaced base taken now_taken before now old new n count (with_run (base + n) count (take (BLOCK_LEN * count) bytes))

-- a block is placed that has these bytes and zeros after them
abbrev pub OnePlaced : ℕ → List ℕ → List Bool → List Bool → Held → Held → Meaning → Meaning → ℕ → Type 0
OnePlaced base bytes taken now_taken before now old new n = RowPlaced base taken now_taken before now old new n 1 (with_kept (base + n) (padded BLOCK_LEN bytes))

-- The bytes are in these blocks, in order.
pub record IsLaid (base : ℕ) (bytes : List ℕ) (taken now_taken : List Bool) (before now : Held) (old new : Meaning) (blocks : List ℕ) : Type 0 where
  pub lays : Lays base taken now_taken before now old new blocks (λ at. content base blocks (length bytes) at ≡ bytes)
  pub count : length blocks ≡ blocks_needed (length bytes)

-- A run that only reads. What the journal fits stays.
pub record Asks (journal : Held) (old new : Meaning) : Type 0 where
  pub reads : OnlyReads old new
  pub fits : (kept : ℕ → List ℕ) → Fits journal old kept → Fits journal new kept
