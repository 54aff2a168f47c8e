use Rattle.lis_incr.specs.Marked.{found_files, LocalsTo}
use Rattle.lis_incr.proofs.marks.leave_locals.Given as goal

abbrev pub invariant-loop-slot : goal.invariant-loop-slot
invariant-loop-slot g l = LocalsTo (g.V.View.seen l.view) (found_files (g.V.View.seen l.view) l.found) l.found l.slot l.locals
