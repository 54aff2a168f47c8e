-- The phases of a commit, of a checkpoint and of a recovery, each as a fact about one image.
use Rattle.std.specs.Prelude.{◌≡◌, ◌≢◌, ℕ, ◌+◌, ◌*◌, ◌<◌, ◌≤◌, nat_lt, true, false, List, [], ◌∷◌, length, None, Result, OnOk, IsTrue}
use Rattle.lis_limits.specs.declared.TheConstants.{BLOCK_LEN, GATES}
use Rattle.lis_ports.specs.Meaning.{Meaning}
use Rattle.lis_ports.specs.Runs.{Leaves, IsSettled}
use Rattle.lis_journal.specs.declared.layout.Layout.{Layout}
use Rattle.lis_journal.specs.Record.{homes_start, record_len, block, is_open, has_open, open_count, HomeBlock, record_end, is_record, recorded, first_bad, all_recorded, apply, recovered}
use Rattle.lis_journal.specs.Journal.{OpenRecords, no_records}
use Rattle.lis_journal.specs.Images.{IsOutside, Keeps, Holds, look, FitsAt}
use Rattle.lis_journal.specs.Spreads.{Spreads, SamePast}
use Rattle.lis_journal.specs.Recovery.{InRecovery}
use Rattle.lis_journal.specs.declared.commit.Target.{Target}
use Rattle.lis_journal.specs.declared.commit.Target.TheVariants.{Record, Homes}

-- the record that begins at block b is well formed and has these entries
pub record Spelled (layout : Layout) (b : ℕ) (es : List HomeBlock) (image : List ℕ) : Type 0 where
  pub form : is_record layout b image ≡ true
  pub holds : recorded b image ≡ es
  pub ends : record_end b image ≡ b + record_len (length es)

-- One more record is complete after the open ones, and its gate may be anything.
pub record Unsure (layout : Layout) (records : OpenRecords) (kept : ℕ → List ℕ) (es : List HomeBlock) (image : List ℕ) : Type 0 where
  pub few : records.count < GATES
  pub holds : Holds layout records [] kept image
  pub spelled : Spelled layout records.next es image
  pub gates : (k : ℕ) → k < GATES → k ≢ records.count → is_open k image ≡ nat_lt k records.count

-- These records are the open ones. Gates after the first closed one may be anything.
pub record Opened (layout : Layout) (records : OpenRecords) (placed : List ℕ) (kept : ℕ → List ℕ) (image : List ℕ) : Type 0 where
  pub holds : Holds layout records placed kept image
  pub counted : open_count image ≡ records.count

-- and each home has what is kept
pub record Homed (layout : Layout) (records : OpenRecords) (kept : ℕ → List ℕ) (image : List ℕ) : Type 0 where
  pub opened : Opened layout records [] kept image
  pub homes : (n : ℕ) → IsOutside layout n → block n image ≡ kept n

-- No record is open, since gate 0 is closed. The other gates may be anything.
pub record Shut (layout : Layout) (kept : ℕ → List ℕ) (image : List ℕ) : Type 0 where
  pub enough : homes_start layout < layout.blocks
  pub closed : is_open 0 image ≡ false
  pub keeps : Keeps layout kept image

-- what a checkpoint begins with
pub record IsOpened (layout : Layout) (records : OpenRecords) (placed : List ℕ) (m : Meaning) (kept : ℕ → List ℕ) : Type 0 where
  pub honest : IsTrue m.is_honest
  pub some : 0 < records.count
  pub reads : Opened layout records [] kept m.bytes
  pub leaves : (image : List ℕ) → m.images image → Opened layout records placed kept image

-- what closing the gates begins with: a gate is open, all open records are well formed, and their contents are in memory
pub record IsLoaded (layout : Layout) (count : ℕ) (latest : List HomeBlock) (m : Meaning) : Type 0 where
  pub honest : IsTrue m.is_honest
  pub opened : has_open m.bytes ≡ true
  pub settled : IsSettled m m.bytes
  pub enough : homes_start layout < layout.blocks
  pub long : BLOCK_LEN * layout.blocks ≤ length m.bytes
  pub counted : open_count m.bytes ≡ count
  pub form : first_bad layout 2 count m.bytes ≡ None
  pub latest_is : (n : ℕ) (old : List ℕ) → look (all_recorded 2 count m.bytes) n old ≡ look latest n old

-- How the gates are closed.
pub record Closes {T E : Type 0} (layout : Layout) (count : ℕ) (old new : Meaning) (result : Result T E) : Type 0 where
  pub moments : Leaves old new (InRecovery layout old.bytes)
  pub images : OnOk result ((image : List ℕ) → new.images image → InRecovery layout old.bytes image)
  pub fits : OnOk result (FitsAt layout no_records [] new (λ n. block n (apply (all_recorded 2 count old.bytes) old.bytes)))
  pub left : OnOk result (IsSettled new (recovered layout old.bytes))
  pub past : Spreads old new (SamePast layout.blocks)

-- the blocks with the entries in their homes
abbrev pub looked : List HomeBlock → (ℕ → List ℕ) → ℕ → List ℕ
looked es kept n = look es n (kept n)

-- The later entries look as the earlier ones with `es` over them.
abbrev pub Absorbs : List HomeBlock → List HomeBlock → List HomeBlock → Type 0
Absorbs earlier es later = (n : ℕ) (old : List ℕ) → look later n old ≡ look es n (look earlier n old)

-- the entries with consecutive blocks as their homes
abbrev pub renumbered : ℕ → List HomeBlock → List HomeBlock
renumbered n [] = []
renumbered n (e ∷ es) = record { home = n; bytes = e.bytes } ∷ renumbered (n + 1) es

-- the entries where they are written: in consecutive blocks of a record, or in their homes
abbrev pub at_target : Target → List HomeBlock → List HomeBlock
at_target (Record first) es = renumbered first es
at_target Homes es = es

-- n blocks of a record end before the home blocks
abbrev pub FitsTarget : Layout → Target → ℕ → Type 0
FitsTarget layout (Record first) n = first + n ≤ homes_start layout
FitsTarget layout Homes n = Unit {0}
