use Rattle.std.proofs.Common.{◌≡◌, length}
use Rattle.lis_transducers.specs.Bytes.{past}
use Rattle.lis_views.specs.Truth.{is_bare}
use Rattle.lis_cuts.proofs.truth.past_bare.Given as goal

abbrev pub invariant-loop-rest : goal.invariant-loop-rest
invariant-loop-rest l = past is_bare l.rest ≡ past is_bare l.text

abbrev pub decreases-loop-rest : goal.decreases-loop-rest
decreases-loop-rest l = length l.rest
