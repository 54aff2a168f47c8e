use Rattle.std.proofs.Common.{◌≡◌, ◌++◌}
use Rattle.lis_grow.specs.Coming.{coming, steps_left}
use Rattle.lis_grow.proofs.phase.some_step.Given as goal

abbrev pub invariant-loop-next : goal.invariant-loop-next
invariant-loop-next l = coming l.fn.x l.fn.phase ≡ l.next.piece ++ coming l.next.x l.next.phase

abbrev pub decreases-loop-next : goal.decreases-loop-next
decreases-loop-next l = steps_left l.next.phase
