use Rattle.std.specs.Prelude.{length}
use Rattle.std.specs.List.{flat_map}
use Rattle.lis_model.specs.Replies.{body_line}
use Rattle.lis_session.proofs.InTurn.{TextSoFar}
use Rattle.lis_session.proofs.route.answer_steps.Given as goal

abbrev pub invariant-loop-word : goal.invariant-loop-word
invariant-loop-word g l = TextSoFar (flat_map (body_line 100) l.fn.steps) (flat_map (body_line 100) l.steps) (g.T.Disk.meaning l.fn.station) (g.T.Disk.meaning l.station)

abbrev pub decreases-loop-word : goal.decreases-loop-word
decreases-loop-word g l = length l.steps
