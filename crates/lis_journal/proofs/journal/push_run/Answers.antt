use Rattle.std.proofs.Common.{◌+◌, ◌++◌, ◌∷◌, [], length, length-append, ap, ◌∙◌, arith}
use Rattle.lis_journal.proofs.Runs.{row_more}
use Rattle.lis_journal.proofs.journal.push_run.Goals as goal

pub loop-k-preserved : goal.loop-k-preserved
loop-k-preserved c = record {
  items = c.in-Ok.ensures.items ∙ (ap (λ xs. xs ++ (c.args.first + c.loop-k.k) ∷ []) c.loop-k.invariant.items ∙ row_more c.args.placed.now.items c.args.first c.loop-k.k);
  len = omega (arith, ap length c.in-Ok.ensures.items, length-append c.loop-k.placed.items ((c.args.first + c.loop-k.k) ∷ []), c.loop-k.invariant.len);
  capacity = omega (arith, c.loop-k.invariant.capacity, c.in-Ok.ensures.capacity);
}
