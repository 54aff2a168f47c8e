use Rattle.std.proofs.Common.{ℕ, Bool, List}
use Rattle.lis_bits.specs.Rows.{HasShape}
use Rattle.lis_eval.specs.View.{table_of}
use Rattle.lis_incr.specs.Marked.{AreMarked, MarkedTo, is_top}
use Rattle.lis_incr.proofs.increments.mark_increments.Given as goal

abbrev pub invariant-loop-k : goal.invariant-loop-k
invariant-loop-k g l = record {
  shape : HasShape l.increments 1 (g.V.View.seen l.view).limits.props;
  marked : (test : List ℕ → Bool) → AreMarked (g.V.View.seen l.view) test l.candidates → MarkedTo (g.V.View.seen l.view) (is_top (table_of (g.V.View.seen l.view)) test) l.k l.increments;
}
