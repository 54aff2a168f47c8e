-- Lists of numbers at a fixed stride. No public clause cites this module.
use Rattle.std.specs.Prelude.{ℕ, ◌+◌, ◌*◌, ◌<◌, ◌≤◌, List, length, map, take, drop, slice_index}
use Rattle.std.specs.List.{range_with_len}
use Rattle.lis_limits.specs.declared.TheConstants.{MAX_DESCRIPTION, V3_MAX_FILES}

-- a list for each length: that many of the numbers, from the index of the list on
unfoldable pub lists_of : List ℕ → List ℕ → List (List ℕ)
lists_of numbers lengths = map (λ i. take (slice_index lengths i) (drop (i * MAX_DESCRIPTION) numbers)) (range_with_len 0 (length lengths))

-- there is room for all lists, and those that have numbers are within them
pub record AreSoundLists (numbers lengths : List ℕ) (capacity : ℕ) : Type 0 where
  pub room : length lengths * MAX_DESCRIPTION ≤ capacity
  pub few_lists : length lengths ≤ V3_MAX_FILES
  pub few_numbers : (i : ℕ) → i < length lengths → slice_index lengths i ≤ MAX_DESCRIPTION
  pub within : (i : ℕ) → i < length lengths → 0 < slice_index lengths i → i * MAX_DESCRIPTION + slice_index lengths i ≤ length numbers
