use Rattle.lis_kept.proofs.Common.{◌≡◌, ℕ, ◌+◌, ◌*◌, ◌<◌, part}
use Rattle.lis_kept.specs.Rows.{row_bytes}
use Rattle.lis_kept.proofs.rows.write_rows.Given as goal

-- the rows so far are written
abbrev pub invariant-loop-k : goal.invariant-loop-k
invariant-loop-k l = (j : ℕ) → j < l.k → part (l.width * j) l.width l.block ≡ row_bytes l.ext (l.first + j)
