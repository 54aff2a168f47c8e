-- How a `Payload` keeps its bytes. No public clause cites this module.
use Rattle.std.specs.Prelude.{◌≡◌, ◌≤◌, ℕ, List, length}
use Rattle.lis_model.specs.Script.{payload_limit}

-- there is room for all bytes that are kept, and the bytes are there as long as they are kept
pub record IsKept (bytes : List ℕ) (capacity size : ℕ) : Type 0 where
  pub room : payload_limit ≤ capacity
  pub whole : size ≤ payload_limit → length bytes ≡ size
