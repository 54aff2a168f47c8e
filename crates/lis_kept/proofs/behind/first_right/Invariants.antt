use Rattle.lis_kept.proofs.Common.{take}
use Rattle.std.specs.Option.{option_map}
use Rattle.lis_kept.proofs.FirstRight.{FirstSoFar}
use Rattle.lis_kept.proofs.behind.first_right.Given as goal

-- it is the first of those of the edges so far
abbrev pub invariant-loop-edge : goal.invariant-loop-edge
invariant-loop-edge l = FirstSoFar l.dict (option_map (λ w. w.now) l.last) (take l.edge-index l.edges) l.first
