-- What an image represents, outside the gates and the records.
use Rattle.std.specs.Prelude.{◌≡◌, ◌⊎◌, ℕ, zero, suc, ◌+◌, ◌*◌, ◌<◌, ◌≤◌, ◌==◌, nat_lt, Bool, false, if◌then◌else◌, List, [], ◌∷◌, ◌++◌, length, take, drop, None, IsTrue, IsSomeAnd}
use Rattle.std.specs.List.{list_any}
use Rattle.lis_limits.specs.declared.TheConstants.{BLOCK_LEN, GATES}
use Rattle.lis_ports.specs.Meaning.{Meaning}
use Rattle.lis_journal.specs.declared.layout.Layout.{Layout}
use Rattle.lis_journal.specs.Record.{homes_start, block, is_open, HomeBlock, behind, first_bad, all_recorded, replayed}
use Rattle.lis_journal.specs.Journal.{OpenRecords, Held}

-- A block outside the gates and the records. Those past the image are among them.
abbrev pub IsOutside : Layout → ℕ → Type 0
IsOutside layout n = (n ≡ 0) ⊎ (homes_start layout ≤ n)

-- The image is long enough, and each block outside the gates and the records is that of `kept`.
pub record Keeps (layout : Layout) (kept : ℕ → List ℕ) (image : List ℕ) : Type 0 where
  pub long : BLOCK_LEN * layout.blocks ≤ length image
  pub same : (n : ℕ) → IsOutside layout n → block n image ≡ kept n

abbrev pub is_among : List ℕ → ℕ → Bool
is_among placed n = list_any (λ m. m == n) placed

-- the same, except for the placed blocks, which may have any bytes
pub record KeepsBut (layout : Layout) (placed : List ℕ) (kept : ℕ → List ℕ) (image : List ℕ) : Type 0 where
  pub long : BLOCK_LEN * layout.blocks ≤ length image
  pub same : (n : ℕ) → IsOutside layout n → is_among placed n ≡ false → block n image ≡ kept n

-- A journal may be used on this disk: it is not broken, and the disk has all blocks of the image.
pub record JournalIsUsable (journal : Held) (m : Meaning) : Type 0 where
  pub unbroken : journal.is_broken ≡ false
  pub long : BLOCK_LEN * journal.layout.blocks ≤ m.len

-- The image is long enough, and has a replayed image, which keeps these blocks.
unfoldable pub StandsFor : Layout → (ℕ → List ℕ) → List ℕ → Type 0
StandsFor layout kept image = (BLOCK_LEN * layout.blocks ≤ length image) × IsSomeAnd (replayed layout image) (Keeps layout kept)

unfoldable pub StandsBut : Layout → List ℕ → (ℕ → List ℕ) → List ℕ → Type 0
StandsBut layout placed kept image =
    (BLOCK_LEN * layout.blocks ≤ length image) × IsSomeAnd (replayed layout image) (KeepsBut layout placed kept)

-- what a block has when these entries are in their homes, if `old` was there
abbrev pub look : List HomeBlock → ℕ → List ℕ → List ℕ
look [] n old = old
look (e ∷ entries) n old = look entries n (if n == e.home then e.bytes else old)

-- The image represents the blocks as before, except for the placed ones, or all of them with all entries in their homes.
abbrev pub StandsForAllOrNone : Layout → List ℕ → (ℕ → List ℕ) → List HomeBlock → List ℕ → Type 0
StandsForAllOrNone layout placed kept entries image =
    StandsBut layout placed kept image ⊎ StandsFor layout (λ n. look entries n (kept n)) image

-- The image has these records from block 2 on, well formed and in sequence. With the latest contents in their homes it has the blocks of
-- `kept`, except for the placed ones.
pub record Holds (layout : Layout) (records : OpenRecords) (placed : List ℕ) (kept : ℕ → List ℕ) (image : List ℕ) : Type 0 where
  pub enough : homes_start layout < layout.blocks
  pub long : BLOCK_LEN * layout.blocks ≤ length image
  pub form : first_bad layout 2 records.count image ≡ None
  pub ends : behind 2 records.count image ≡ records.next
  pub latest : (n : ℕ) (old : List ℕ) → look (all_recorded 2 records.count image) n old ≡ look records.latest n old
  pub same : (n : ℕ) → IsOutside layout n → is_among placed n ≡ false → look records.latest n (block n image) ≡ kept n

-- The image has these records, their gates are open, and all other gates are closed.
pub record IsAtRest (layout : Layout) (records : OpenRecords) (placed : List ℕ) (kept : ℕ → List ℕ) (image : List ℕ) : Type 0 where
  pub few : records.count ≤ GATES
  pub holds : Holds layout records placed kept image
  pub gates : (k : ℕ) → k < GATES → is_open k image ≡ nat_lt k records.count

-- A disk keeps these blocks under these records: it is honest, and it is at rest as it reads, and in each image except for the placed
-- blocks.
pub record FitsAt (layout : Layout) (records : OpenRecords) (placed : List ℕ) (m : Meaning) (kept : ℕ → List ℕ) : Type 0 where
  pub honest : IsTrue m.is_honest
  pub reads : IsAtRest layout records [] kept m.bytes
  pub leaves : (image : List ℕ) → m.images image → IsAtRest layout records placed kept image

-- a journal fits a disk that keeps these blocks
abbrev pub Fits : Held → Meaning → (ℕ → List ℕ) → Type 0
Fits journal m kept = FitsAt journal.layout journal.records journal.placed m kept

-- what a block has if the disk reads as these bytes: what is staged for it, or otherwise its latest content in the open records, or
-- otherwise what is on the disk
abbrev pub held_in : Held → List ℕ → ℕ → List ℕ
held_in journal bytes n = look journal.staged n (look journal.records.latest n (block n bytes))

-- the placed blocks with this one
abbrev pub with_placed : List ℕ → ℕ → List ℕ
with_placed placed n = if is_among placed n then placed else placed ++ n ∷ []

-- the blocks that are kept, with these bytes in one of them
abbrev pub with_kept : ℕ → List ℕ → (ℕ → List ℕ) → ℕ → List ℕ
with_kept n bytes kept k = if k == n then bytes else kept k

-- the blocks that are kept, with these bytes in `count` blocks from this one on
abbrev pub with_run : ℕ → ℕ → List ℕ → (ℕ → List ℕ) → ℕ → List ℕ
with_run n zero bytes kept = kept
with_run n (suc count) bytes kept = with_run (n + 1) count (drop BLOCK_LEN bytes) (with_kept n (take BLOCK_LEN bytes) kept)

-- The blocks from this number on read as before.
abbrev pub KeepsPast : ℕ → Meaning → Meaning → Type 0
KeepsPast blocks old new = (n : ℕ) → blocks ≤ n → block n new.bytes ≡ block n old.bytes
