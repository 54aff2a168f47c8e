use Rattle.lis_store.proofs.Common.{◌≡◌, ℕ, ◌<◌, false, Some}
use Rattle.lis_store.specs.Testing.{is_crowded}
use Rattle.lis_store.proofs.crowding.has_crowded.Given as goal

-- none of the slots so far
abbrev pub invariant-loop-slot : goal.invariant-loop-slot
invariant-loop-slot l = (i : ℕ) → i < l.slot → is_crowded l.metadata (Some l.test) l.numbers i ≡ false
