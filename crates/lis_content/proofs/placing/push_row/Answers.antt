use Rattle.std.proofs.Common.{◌+◌, ◌++◌, ◌∷◌, [], length, length-append, ap, ◌∙◌, arith}
use Rattle.lis_journal.proofs.Runs.{row_more}
use Rattle.lis_content.proofs.placing.push_row.Goals as goal

pub loop-k-preserved : goal.loop-k-preserved
loop-k-preserved c =
    let n = c.args.row.first + c.loop-k.k in
    record {
      items = c.push.ensures.items ∙ (ap (λ xs. xs ++ n ∷ []) c.loop-k.invariant.items ∙ row_more c.args.taken.now.items c.args.row.first c.loop-k.k);
      len = omega (arith, ap length c.push.ensures.items, length-append c.loop-k.taken.items (n ∷ []), c.loop-k.invariant.len);
    }
