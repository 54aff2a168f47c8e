-- How making an image ends.
use Rattle.std.specs.Prelude.{◌≡◌, ◌*◌, ◌≤◌, ◌<◌, IsTrue}
use Rattle.lis_limits.specs.declared.TheConstants.{BLOCK_LEN}
use Rattle.lis_ports.specs.Meaning.{Meaning}
use Rattle.lis_ports.specs.Runs.{Always, IsSettled}
use Rattle.lis_model.specs.declared.limits.Limits.{Limits}
use Rattle.lis_model.specs.Image.{image_blocks}
use Rattle.lis_model.specs.State.{empty_state}
use Rattle.lis_store.specs.Stands.{Stands}
use Rattle.lis_line.specs.declared.carrier.Halt.TheVariants.{End as AtEnd}
use Rattle.lis_open.specs.declared.mounting.OpenFault.TheVariants.{TooShort, DiskFault}
use Rattle.lis_open.specs.Makes.{IsMade}
use Rattle.lis_shell.specs.declared.status.Status.{Status}
use Rattle.lis_shell.specs.declared.status.Status.TheVariants.{Opening, Ended}

-- It ended: each image represents the empty state and is as making leaves it, and a crash then leaves the bytes as they read. Or the disk
-- is too short, exactly if it has fewer bytes than the image takes; or it failed.
abbrev pub MadeImage : Limits → Meaning → Meaning → Status → Type 0
MadeImage limits old new (Ended AtEnd) =
    (BLOCK_LEN * image_blocks limits ≤ old.len)
    × (IsTrue old.is_honest → Always new (λ image. Stands image (empty_state limits) × IsMade limits old.bytes image) × IsSettled new new.bytes)
MadeImage limits old new (Opening (TooShort len need)) = (len ≡ old.len) × (need ≡ BLOCK_LEN * image_blocks limits) × (len < need)
MadeImage limits old new (Opening DiskFault) = BLOCK_LEN * image_blocks limits ≤ old.len
MadeImage limits old new status = ⊥
