-- How much of a source was taken, and what its calls guarantee.
use Rattle.std.specs.Prelude.{ℕ, ◌+◌, ◌≤◌, List, length, Option, Result}
use Rattle.std.specs.Io.KnownBytes.{Consumes}
use Rattle.lis_ports.specs.Calls.{HasCause, FaultEnds}

-- at most one byte past the limit was taken
pub record TakesFew (limit : ℕ) (left_before left : Option (List ℕ)) : Type 0 where
  pub taken : List ℕ
  pub consumed : Consumes left_before left taken
  pub few : length taken ≤ limit + 1

-- What a run of source calls guarantees if it ends with one result: it fails only if a call failed, and that call was the last. This is
-- stated by two counts: how many calls failed, and how many had failed when the last one began.
pub record UsesSource {T E : Type 0} (faults_before faults behind_before behind : ℕ) (result : Result T E) : Type 0 where
  pub cause : HasCause faults_before faults result
  pub first_fault : FaultEnds faults_before behind_before behind
