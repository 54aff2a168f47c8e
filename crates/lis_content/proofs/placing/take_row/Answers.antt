use Rattle.std.proofs.Common.{◌+◌, ◌≡◌, ◌<◌, length, true, ap, refl, arith, length-set}
use Rattle.lis_content.proofs.Rows.{length_row, takes_next}
use Rattle.lis_content.proofs.placing.take_row.Goals as goal

pub take_next-requires : goal.take_next-requires
take_next-requires c =
    let len : length c.loop-count.map ≡ length c.args.map.now = length_row c.args.map.now c.loop-count.map c.in-Some.first c.loop-count.count c.loop-count.invariant.row in
    omega (arith, len, c.len.ensures.value, ap length c.in-Some.ensures.taken, length-set c.args.map.now c.in-Some.first true, c.loop-count-test.true)

pub loop-count-preserved : goal.loop-count-preserved
loop-count-preserved c =
    let e = c.if-not-take_next.ensures in
    let was = c.loop-count.invariant in
    let within : c.in-Some.first + c.loop-count.count < length c.args.map.now = omega (arith, c.len.ensures.value, ap length c.in-Some.ensures.taken, length-set c.args.map.now c.in-Some.first true, c.loop-count-test.true) in
    record {
      row = takes_next c.args.map.now c.loop-count.map c.take_next.new.map c.in-Some.first c.loop-count.count was.row within (e.was_free refl) (e.taken refl) (e.fewer refl);
      any = omega arith;
      most = omega (arith, c.loop-count-test.true);
    }
