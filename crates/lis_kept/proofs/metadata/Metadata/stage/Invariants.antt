use Rattle.std.proofs.Common.{◌-◌}
use Rattle.lis_kept.proofs.Common.{◌≤◌}
use Rattle.lis_model.specs.Image.{properties_start}
use Rattle.lis_kept.specs.Inside.{StagedBelow}
use Rattle.lis_kept.proofs.metadata.Metadata.stage.Given as goal

-- the marked blocks so far are staged
abbrev pub invariant-loop-from : goal.invariant-loop-from
invariant-loop-from l = (properties_start l.self.limits ≤ l.from) × (l.from ≤ l.end) × StagedBelow l.self l.from l.initial.journal l.journal

abbrev pub decreases-loop-from : goal.decreases-loop-from
decreases-loop-from l = l.end - l.from
