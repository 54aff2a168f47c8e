-- A journal as a contract sees it.
use Rattle.std.specs.Prelude.{◌≡◌, ℕ, Bool, List, []}
use Rattle.lis_journal.specs.declared.layout.Layout.{Layout}
use Rattle.lis_journal.specs.declared.layout.Capacity.{Capacity}
use Rattle.lis_journal.specs.Record.{HomeBlock}

-- The open records: how many there are, the block after them, and the latest content of each block that is in them, in the order of their
-- homes.
pub record OpenRecords : Type 0 where
  pub count : ℕ
  pub next : ℕ
  pub latest : List HomeBlock

abbrev pub records_of : ℕ → ℕ → List HomeBlock → OpenRecords
records_of count next latest = record { count = count; next = next; latest = latest }

abbrev pub no_records : OpenRecords
no_records = records_of 0 2 []

pub record Held : Type 0 where
  pub layout : Layout
  pub capacity : Capacity
  -- in the order of their homes
  pub staged : List HomeBlock
  pub records : OpenRecords
  -- the blocks that were written without a record since the last commit
  pub placed : List ℕ
  pub is_broken : Bool

-- What stays from when a journal is made: how its image is divided, and how much can be staged and placed.
pub record Shape : Type 0 where
  pub layout : Layout
  pub capacity : Capacity

abbrev pub shape_of : Held → Shape
shape_of journal = record { layout = journal.layout; capacity = journal.capacity }
