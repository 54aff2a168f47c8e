-- How one block is spelled and staged. No public clause cites this module.
use Rattle.std.specs.Prelude.{◌≡◌, ◌≢◌, ◌⊎◌, ℕ, ◌+◌, ◌<◌, ◌≤◌, Bool, true, false, List, length, take, count_by}
use Rattle.lis_limits.specs.declared.TheConstants.{FILE_LEN, PROP_LEN, SET_LEN}
use Rattle.lis_ports.specs.Bytes.{part}
use Rattle.lis_journal.specs.Journal.{Held, shape_of}
use Rattle.lis_journal.specs.Images.{look}
use Rattle.lis_journal.specs.Phases.{looked}
use Rattle.lis_slots.specs.Slots.{place}
use Rattle.lis_model.specs.Image.{properties_start}
use Rattle.lis_model.specs.declared.limits.Limits.{Limits}
use Rattle.lis_kept.specs.Metadata.{Metadata}
use Rattle.lis_kept.specs.Areas.{Area, slots_of, block_of, spelled, held_in, is_marked, IsSaved, property_slots, axiom_slots, file_slots, row_slots, set_slots}
use Rattle.lis_kept.specs.Areas.Area.{Properties, Axioms, Files, Rows, Sets, Bitmap}

-- the bytes of a slot in its block; a slot of the bitmap is the whole block
abbrev pub bytes_in : Limits → Area → ℕ → List ℕ → List ℕ
bytes_in limits Properties m block = part (place (property_slots limits) m) PROP_LEN block
bytes_in limits Axioms m block = part (place (axiom_slots limits) m) 8 block
bytes_in limits Files m block = part (place (file_slots limits) m) FILE_LEN block
bytes_in limits Rows m block = part (place (row_slots limits) m) (row_slots limits).width block
bytes_in limits Sets m block = part (place (set_slots limits) m) SET_LEN block
bytes_in limits Bitmap m block = block

-- these bytes are those of the block with this number, whatever area it is in
abbrev pub IsBlock : Metadata → ℕ → List ℕ → Type 0
IsBlock k n block = (area : Area) (m : ℕ) → m < (slots_of k.limits area).count → block_of k.limits area m ≡ n → bytes_in k.limits area m block ≡ spelled k area m

-- one block is staged as memory spells it
pub record StagesBlock (k : Metadata) (n : ℕ) (old new : Held) : Type 0 where
  pub image : shape_of new ≡ shape_of old
  pub records : new.records ≡ old.records
  pub placed : new.placed ≡ old.placed
  pub broken : new.is_broken ≡ old.is_broken
  pub few : length new.staged ≤ length old.staged + 1
  pub bytes : List ℕ
  pub block : IsBlock k n bytes
  pub here : (was : List ℕ) → look new.staged n was ≡ bytes
  pub others : (other : ℕ) (was : List ℕ) → other ≢ n → look new.staged other was ≡ look old.staged other was

-- the marked blocks below a number are staged
pub record StagedBelow (k : Metadata) (end : ℕ) (old new : Held) : Type 0 where
  pub image : shape_of new ≡ shape_of old
  pub records : new.records ≡ old.records
  pub placed : new.placed ≡ old.placed
  pub broken : new.is_broken ≡ old.is_broken
  pub few : length new.staged ≤ length old.staged + count_by (λ (b : Bool). b) (take end k.marks)
  pub some : (n : ℕ) → properties_start k.limits ≤ n → n < end → is_marked k n ≡ true → 0 < length new.staged
  pub written : (kept : ℕ → List ℕ) → IsSaved k (looked old.staged kept) → (area : Area) (m : ℕ) → m < (slots_of k.limits area).count
      → (block_of k.limits area m < end) ⊎ (is_marked k (block_of k.limits area m) ≡ false) → held_in k.limits area (looked new.staged kept) m ≡ spelled k area m
  pub others : (other : ℕ) (was : List ℕ) → (other < properties_start k.limits) ⊎ (end ≤ other) → look new.staged other was ≡ look old.staged other was
