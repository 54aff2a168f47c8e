use Rattle.std.proofs.Common.{◌+◌, ◌&&◌, ◌∙◌, arith}
use Rattle.lis_bits.specs.Rows.{get}
use Rattle.lis_bits.proofs.Laws.{bits_set}
use Rattle.lis_eval.proofs.Stacked.{all_more}
use Rattle.lis_eval.proofs.evaluation.and_all.Goals as goal

pub loop-row-preserved : goal.loop-row-preserved
loop-row-preserved c =
    let old = c.args.rows.now in
    let now = c.loop-row.rows in
    let row = c.loop-row.row in
    let sets = bits_set now 65 c.args.files 0 (λ bit. get now 0 bit && get now (row + 1) bit) c.loop-row.invariant.shape (omega arith) in
    rw c.and.ensures (record {
      shape = sets.shape;
      first = λ bit lt. sets.at bit lt ∙ all_more old now row bit (get old 0 bit) (c.loop-row.invariant.first bit lt) (c.loop-row.invariant.others (row + 1) bit (omega arith));
      others = λ other bit differ. sets.others other bit differ ∙ c.loop-row.invariant.others other bit differ;
    })
