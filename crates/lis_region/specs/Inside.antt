-- How the fields of a `Region` make the map that a contract sees. No public clause cites this module.
use Rattle.std.specs.Prelude.{◌≡◌, ◌≢◌, ℕ, ◌+◌, ◌^◌, ◌<◌, List, All, length, map, Option, Some, None, is_some, count_by, slice_index, slice_index_or, replicate, vec_len, if◌then◌else◌}
use Rattle.lis_region.specs.declared.region.Slot.{Slot}

-- the first `free` numbers of the order are those of the free frames, each once
pub record IsOrder {X : Type 0} (frames : List (Option X)) (order : List ℕ) (free : ℕ) : Type 0 where
  pub as_many : length order ≡ length frames
  pub few : length frames < 2 ^ 32
  pub counted : free + count_by is_some frames ≡ length frames
  pub in_range : (k : ℕ) → k < free → slice_index order k < length frames
  pub all_free : (k : ℕ) → k < free → slice_index_or frames (slice_index order k) None ≡ None
  pub apart : (j k : ℕ) → j < k → k < free → slice_index order j ≢ slice_index order k

module _ {T : Type 0} where
  -- the items of a slot, if its frame is taken
  abbrev pub slot_items : Slot T → Option (List T)
  slot_items slot = if slot.is_taken then Some slot.items.items else None

  -- the items at each number, if its frame is taken
  abbrev pub frames_of : List (Slot T) → List (Option (List T))
  frames_of slots = map slot_items slots

  -- each slot has `width` items, and the order begins with the free ones
  pub record IsSoundRegion (slots : List (Slot T)) (order : List ℕ) (free width : ℕ) : Type 0 where
    pub widths : All (λ slot. vec_len slot.items ≡ width) slots
    pub free_first : IsOrder (frames_of slots) order free

  -- the first `count` slots are made, each of them free, and the order has their numbers in sequence
  pub record IsMade (slots : List (Slot T)) (order : List ℕ) (count width : ℕ) : Type 0 where
    pub widths : All (λ slot. vec_len slot.items ≡ width) slots
    pub frames : frames_of slots ≡ replicate count None
    pub as_many : length order ≡ count
    pub in_turn : (k : ℕ) → k < count → slice_index order k ≡ k
