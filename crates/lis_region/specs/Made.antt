-- How the fields of a `Pool` make the map that a contract sees. No public clause cites this module.
use Rattle.std.specs.Prelude.{◌≡◌, ◌≢◌, ℕ, ◌-◌, ◌+◌, ◌*◌, ◌^◌, ◌<◌, ◌≤◌, ◌++◌, Bool, true, false, List, [], ◌∷◌, length, take, drop, Option, Some, None, count_by, slice_index, slice_index_or, replicate, if◌then◌else◌}

-- the numbers are those of the made frames that are free, each once
pub record IsOrder (taken : List Bool) (given : List ℕ) : Type 0 where
  pub counted : length given + count_by (λ is_taken. is_taken) taken ≡ length taken
  pub all_free : (k : ℕ) → k < length given → slice_index_or taken (slice_index given k) true ≡ false
  pub apart : (j k : ℕ) → j < k → k < length given → slice_index given j ≢ slice_index given k

module _ {T : Type 0} where
  -- for each frame that was made, in sequence, its items if it is taken
  abbrev pub frames_made : ℕ → List Bool → List T → List (Option (List T))
  frames_made width [] items = []
  frames_made width (is_taken ∷ taken) items = (if is_taken then Some (take width items) else None) ∷ frames_made width taken (drop width items)

  -- the items at each number, if its frame is taken
  abbrev pub frames_of : ℕ → ℕ → List Bool → List T → List (Option (List T))
  frames_of width frames taken items = frames_made width taken items ++ replicate (frames - length taken) None

  -- the frames that were made have their items
  pub record IsSoundPool (width frames : ℕ) (items : List T) (taken : List Bool) (given : List ℕ) : Type 0 where
    pub whole : length items ≡ length taken * width
    pub made : length taken ≤ frames
    pub few : frames < 2 ^ 32
    pub small : frames * width ≤ 2 ^ 28
    pub order : IsOrder taken given

-- vectors with room for these numbers of items have room for all frames
pub record HasRoom (width frames items taken given : ℕ) : Type 0 where
  pub items_fit : frames * width ≤ items
  pub taken_fit : frames ≤ taken
  pub given_fit : frames ≤ given
