-- An image without words, axioms and files.
use Rattle.std.specs.Prelude.{◌≡◌, ℕ, ◌*◌, ◌≤◌, ◌<◌, List, length, replicate}
use Rattle.lis_limits.specs.declared.TheConstants.{BLOCK_LEN, GATES}
use Rattle.lis_ports.specs.Bytes.{part}
use Rattle.lis_journal.specs.Record.{block}
use Rattle.lis_fields.specs.Layouts.{zeros}
use Rattle.lis_model.specs.declared.limits.Limits.{Limits}
use Rattle.lis_model.specs.Image.{properties_start, data_start, image_blocks}

-- What an image needs to represent the empty state, besides its super block: the gates are zero, and so are all home blocks except the data
-- blocks. The rest of the gate block, the records and the data blocks may hold any bytes.
pub record IsBlank (limits : Limits) (image : List ℕ) : Type 0 where
  pub long : BLOCK_LEN * image_blocks limits ≤ length image
  pub gates : part BLOCK_LEN GATES image ≡ replicate GATES 0
  pub homes : (n : ℕ) → properties_start limits ≤ n → n < data_start limits → block n image ≡ zeros BLOCK_LEN
