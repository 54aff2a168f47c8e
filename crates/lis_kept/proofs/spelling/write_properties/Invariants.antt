use Rattle.lis_kept.proofs.Common.{◌≡◌, ℕ, ◌+◌, ◌*◌, ◌<◌, part, prop_bytes}
use Rattle.lis_kept.specs.Metadata.{property_at}
use Rattle.lis_kept.proofs.spelling.write_properties.Given as goal

-- the slots so far are written
abbrev pub invariant-loop-k : goal.invariant-loop-k
invariant-loop-k l = (j : ℕ) → j < l.k → part (64 * j) 64 l.block ≡ prop_bytes (property_at l.dict l.declared (l.first + j))
