use Rattle.lis_kept.proofs.Common.{◌≡◌, map, take, marked}
use Rattle.lis_kept.specs.Areas.{description_home}
use Rattle.lis_kept.proofs.changes.mark_described.Given as goal

-- the blocks of the numbers so far are marked
abbrev pub invariant-loop-k : goal.invariant-loop-k
invariant-loop-k l = l.marks ≡ marked l.initial.marks (map (description_home l.limits l.slot) (take l.k l.ext.marks))
