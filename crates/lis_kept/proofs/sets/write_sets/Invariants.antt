use Rattle.lis_kept.proofs.Common.{◌≡◌, ℕ, ◌+◌, ◌<◌}
use Rattle.std.proofs.Common.{◌*◌}
use Rattle.lis_ports.specs.Bytes.{part}
use Rattle.lis_fields.specs.Layouts.{set_bytes}
use Rattle.lis_ext.specs.Ext.{set_of}
use Rattle.lis_kept.proofs.sets.write_sets.Given as goal

-- the sets so far are written
abbrev pub invariant-loop-k : goal.invariant-loop-k
invariant-loop-k l = (j : ℕ) → j < l.k → part (512 * j) 512 l.block ≡ set_bytes (set_of l.ext (l.first + j))
