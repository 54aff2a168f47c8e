use Rattle.std.proofs.Common.{◌≡◌, ◌≤◌, length, take, filter}
use Rattle.lis_bits.specs.Rows.{get}
use Rattle.lis_eval.specs.View.{Placed}
use Rattle.lis_incr.proofs.walk.count_found.Given as goal

abbrev pub invariant-loop-k : goal.invariant-loop-k
invariant-loop-k g l = record {
  count : l.count ≡ length (filter (λ (f : Placed). get l.found 0 f.slot) (take l.k (g.V.View.seen l.view).files));
  few : l.count ≤ l.k;
}
