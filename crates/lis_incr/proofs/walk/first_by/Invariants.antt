use Rattle.std.proofs.Common.{ℕ, Bool, List, take}
use Rattle.lis_eval.specs.View.{table_of}
use Rattle.lis_incr.specs.Marked.{AreMarked, is_top}
use Rattle.lis_incr.specs.Walking.{IsFirstBy}
use Rattle.lis_incr.proofs.walk.first_by.Given as goal

abbrev pub invariant-loop-number : goal.invariant-loop-number
invariant-loop-number g l =
    (test : List ℕ → Bool) → AreMarked (g.V.View.seen l.view) test l.marks → IsFirstBy (g.V.View.seen l.view) (is_top (table_of (g.V.View.seen l.view)) test) (take l.number-index l.numbers) l.first
