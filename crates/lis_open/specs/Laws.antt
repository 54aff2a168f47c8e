-- A law on images whose checks fail.
use Rattle.std.specs.Prelude.{ℕ, List}
use Rattle.lis_model.specs.declared.spot.Spot.{Spot}
use Rattle.lis_model.specs.State.{State}
use Rattle.lis_store.specs.Stands.{Stands}
use Rattle.lis_open.specs.Checks.{FailsIn}

-- an image of which a part fails its check represents no state
abbrev pub FailingStandsForNone : Type 0
FailingStandsForNone = (image : List ℕ) (s : State) (spot : Spot) → Stands image s → FailsIn image spot → ⊥
