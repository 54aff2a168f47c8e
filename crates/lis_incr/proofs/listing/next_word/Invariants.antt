use Rattle.std.proofs.Common.{◌≡◌}
use Rattle.lis_incr.specs.Lines.{words_from}
use Rattle.lis_incr.proofs.listing.next_word.Given as goal

abbrev pub invariant-loop-k : goal.invariant-loop-k
invariant-loop-k g l = words_from (g.V.View.seen l.view) l.marks l.start ≡ words_from (g.V.View.seen l.view) l.marks l.k
