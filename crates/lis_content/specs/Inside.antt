-- How a `Buffer` keeps its bytes, and what its reads need. No public clause cites this module.
use Rattle.std.specs.Prelude.{◌≡◌, ℕ, ◌+◌, ◌<◌, ◌≤◌, List, length}
use Rattle.lis_limits.specs.declared.TheConstants.{BLOCK_LEN, V3_MAX_FILE}

-- the bytes that count are there, and there is room for those of any file
pub record IsKept (bytes : List ℕ) (capacity size : ℕ) : Type 0 where
  pub there : size ≤ length bytes
  pub within : size ≤ V3_MAX_FILE
  pub room : V3_MAX_FILE ≤ capacity

-- a block of the image with this number is whole
abbrev pub IsWhole : ℕ → ℕ → (ℕ → List ℕ) → ℕ → Type 0
IsWhole base blocks at n = base + n < blocks → length (at (base + n)) ≡ BLOCK_LEN
