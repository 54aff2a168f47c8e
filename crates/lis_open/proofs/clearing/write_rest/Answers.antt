use Rattle.lis_open.proofs.Common.{◌≡◌, ◌∙◌, length, ap, arith, on_ok_weaker, Torn, put}
use Rattle.lis_journal.proofs.Spreading.{spreads_torn}
use Rattle.lis_open.proofs.Wiping.{torn_wider, rest_is, length-rest}
use Rattle.lis_open.proofs.clearing.write_rest.Goals as goal

pub returns-clause-spreads : goal.returns-clause-spreads
returns-clause-spreads g c = λ honest.
    let same = rest_is c.args.limits.now c.write_super.new.bytes c.split_at.result.1.now c.write_super.ensures c.split_at.ensures.back in
    let size : length c.split_at.result.1.now ≡ 4095 = ap length same ∙ length-rest c.args.limits.now in
    spreads_torn (Torn 1 4095) 1 (length c.split_at.result.1.now) c.write_at.ensures.call.run c.write_at.ensures.call.time (c.write_at.ensures.torn honest)
    (λ from image torn. torn_wider 1 (length c.split_at.result.1.now) 1 4095 from image (omega arith) (omega (arith, size)) torn)

pub returns-clause-written : goal.returns-clause-written
returns-clause-written g c =
    let same = rest_is c.args.limits.now c.write_super.new.bytes c.split_at.result.1.now c.write_super.ensures c.split_at.ensures.back in
    on_ok_weaker c.write_at.result (λ written. λ honest. (written honest).reads ∙ ap (put (g.D.Disk.meaning c.args.disk.now).bytes 1) same) c.write_at.ensures.written
