use Rattle.std.proofs.Common.{◌≡◌}
use Rattle.lis_incr.specs.Lines.{names_from}
use Rattle.lis_incr.proofs.listing.next_file.Given as goal

abbrev pub invariant-loop-k : goal.invariant-loop-k
invariant-loop-k g l = names_from (g.V.View.seen l.view) l.marks l.start ≡ names_from (g.V.View.seen l.view) l.marks l.k
