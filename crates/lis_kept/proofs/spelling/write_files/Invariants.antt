use Rattle.lis_kept.proofs.Common.{◌≡◌, ℕ, ◌+◌, ◌*◌, ◌<◌, part, file_bytes}
use Rattle.lis_kept.specs.Metadata.{record_at}
use Rattle.lis_kept.proofs.spelling.write_files.Given as goal

-- the slots so far are written
abbrev pub invariant-loop-k : goal.invariant-loop-k
invariant-loop-k l = (j : ℕ) → j < l.k → part (256 * j) 256 l.block ≡ file_bytes l.limits.version (record_at l.catalog (l.first + j))
