use Rattle.std.proofs.Common.{arith, mul-le-mul_left}
use Rattle.lis_kept.proofs.Common.{◌+◌, ◌*◌, ◌≤◌}
use Rattle.lis_kept.specs.Rows.{row_bytes}
use Rattle.lis_kept.proofs.Spelled.{one_slot_more}
use Rattle.lis_kept.proofs.rows.write_rows.Goals as goal

pub loop-k-preserved : goal.loop-k-preserved
loop-k-preserved c =
    let le : c.loop-k.k + 1 ≤ c.args.count = omega (arith, c.loop-k-test.true) in
    let within : c.args.width * c.loop-k.k + c.args.width ≤ 4096 = omega (arith, mul-le-mul_left c.args.width le, c.requires.whole) in
    one_slot_more c.args.width c.loop-k.k _ _ (λ j. row_bytes c.args.ext.now (c.args.first + j)) c.loop-k.block c.write_row.new.row
    (omega arith) (omega arith) (omega (arith, within, c.loop-k.auto.block, c.requires.block))
    c.write_row.auto.row c.write_row.ensures c.loop-k.invariant
