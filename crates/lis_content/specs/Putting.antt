-- How a put of a file's bytes ends.
use Rattle.std.specs.Prelude.{◌≡◌, ℕ, ◌+◌, ◌<◌, ◌≤◌, Bool, false, List, length, IsTrue}
use Rattle.lis_model.specs.State.{blocks_needed}
use Rattle.lis_journal.specs.Journal.{Held, shape_of}
use Rattle.lis_journal.specs.Images.{look}
use Rattle.lis_journal.specs.Phases.{looked}
use Rattle.lis_blockmap.specs.Bitmap.{free_count}
use Rattle.lis_content.specs.Content.{content, given, marked, are_taken, are_free, has_home}
use Rattle.lis_content.specs.declared.fault.PutFault.{PutFault}
use Rattle.lis_content.specs.declared.fault.PutFault.TheVariants.{NoSpace, Disk}
use Rattle.lis_model.specs.Sets.{are_distinct}

-- The old blocks are freed, and the bytes are in blocks that were free then. Every other block stays, staged or not.
pub record IsPut (base : ℕ) (old bytes : List ℕ) (taken now_taken : List Bool) (before now : Held) (blocks : List ℕ) : Type 0 where
  pub count : length blocks ≡ blocks_needed (length bytes)
  pub distinct : IsTrue (are_distinct blocks)
  pub were_free : IsTrue (are_free (given taken old) blocks)
  pub marks : now_taken ≡ marked (given taken old) blocks
  pub taken_now : IsTrue (are_taken now_taken blocks)
  pub len : length now_taken ≡ length taken
  pub counted : free_count now_taken + length blocks ≡ free_count taken + length old
  pub enough : blocks_needed (length bytes) ≤ free_count taken + length old
  pub image : shape_of now ≡ shape_of before
  pub records : now.records ≡ before.records
  pub placed : now.placed ≡ before.placed
  pub broken : now.is_broken ≡ before.is_broken
  pub holds : (kept : ℕ → List ℕ) → content base blocks (length bytes) (looked now.staged kept) ≡ bytes
  pub others : (n : ℕ) (was : List ℕ) → has_home base blocks n ≡ false → look now.staged n was ≡ look before.staged n was
  pub few : length now.staged ≤ length before.staged + length blocks

-- Nothing is put: the free blocks and the old ones are too few. No disk call is made, so none fails.
abbrev pub IsRefused : List ℕ → List ℕ → List Bool → List Bool → Held → Held → PutFault → Type 0
IsRefused old bytes taken now_taken before now NoSpace =
    (now_taken ≡ taken) × (now ≡ before) × (free_count taken + length old < blocks_needed (length bytes))
IsRefused old bytes taken now_taken before now Disk = ⊥
