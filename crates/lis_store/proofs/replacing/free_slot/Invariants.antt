use Rattle.lis_store.proofs.Common.{◌≡◌, ℕ, ◌<◌, true, is_some, rec_at}
use Rattle.lis_store.proofs.replacing.free_slot.Given as goal

-- each slot so far has a file
abbrev pub invariant-loop-slot : goal.invariant-loop-slot
invariant-loop-slot l = (k : ℕ) → k < l.slot → is_some (rec_at l.metadata.catalog k) ≡ true
