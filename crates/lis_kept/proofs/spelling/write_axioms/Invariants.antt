use Rattle.lis_kept.proofs.Common.{◌≡◌, ℕ, ◌+◌, ◌*◌, ◌<◌, part, axiom_bytes}
use Rattle.lis_kept.specs.Metadata.{axiom_at}
use Rattle.lis_kept.proofs.spelling.write_axioms.Given as goal

-- the slots so far are written
abbrev pub invariant-loop-k : goal.invariant-loop-k
invariant-loop-k l = (j : ℕ) → j < l.k → part (8 * j) 8 l.block ≡ axiom_bytes (axiom_at l.axioms (l.first + j))
