-- What the tests know of a journal between two calls, and of its disk.
use Rattle.std.specs.Prelude.{◌≡◌, ◌≤◌, ℕ, false, [], length}
use Rattle.lis_limits.specs.declared.TheConstants.{MAX_PLACED, MAX_STAGED, RECORD_BLOCKS}
use Rattle.lis_ports.specs.Meaning.{Meaning}
use Rattle.lis_journal.specs.declared.layout.Layout.{Layout}
use Rattle.lis_journal.specs.declared.layout.Capacity.{Capacity}
use Rattle.lis_journal.specs.Journal.{Held, Shape, shape_of}

-- a journal of this many blocks, with records and room as those of an image
abbrev pub shape_with : ℕ → Shape
shape_with blocks = record { layout = record { records = RECORD_BLOCKS; blocks = blocks }; capacity = record { staged = MAX_STAGED; placed = MAX_PLACED } }

-- a journal of this many blocks, with nothing staged and nothing placed
pub record IsAtRest (blocks : ℕ) (journal : Held) : Type 0 where
  pub shape : shape_of journal ≡ shape_with blocks
  pub staged : journal.staged ≡ []
  pub placed : journal.placed ≡ []
  pub unbroken : journal.is_broken ≡ false

-- the same, with at most `most` blocks staged
pub record HasStaged (blocks most : ℕ) (journal : Held) : Type 0 where
  pub shape : shape_of journal ≡ shape_with blocks
  pub staged : length journal.staged ≤ most
  pub placed : journal.placed ≡ []
  pub unbroken : journal.is_broken ≡ false

-- the disk is as long as before, and it records its moments exactly if it did before
pub record IsSameDisk (old new : Meaning) : Type 0 where
  pub len : new.len ≡ old.len
  pub recorded : new.is_recorded ≡ old.is_recorded
