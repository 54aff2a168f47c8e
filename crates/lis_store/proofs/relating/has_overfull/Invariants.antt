use Rattle.lis_store.proofs.Common.{◌≡◌, ℕ, ◌<◌, false}
use Rattle.lis_store.specs.Relating.{is_overfull}
use Rattle.lis_store.proofs.relating.has_overfull.Given as goal

-- none of the slots so far is too large
abbrev pub invariant-loop-slot : goal.invariant-loop-slot
invariant-loop-slot l = (i : ℕ) → i < l.slot → is_overfull l.metadata l.left l.right i ≡ false
