use Rattle.std.proofs.Common.{[], ◌∷◌, ◌++◌, ◌∙◌, refl, arith}
use Rattle.lis_line.proofs.Answered.{item_taken, few_said}
use Rattle.lis_line.proofs.Carrying.{so_far_none, so_far_more, of_item, behind_next, ready_next, went_all, went_to_limit, went_whole, went_into}
use Rattle.lis_line.proofs.carrier.carry_all.Goals as goal

pub loop-request-init : goal.loop-request-init
loop-request-init g c = record {
  so_far = so_far_none g.C.Item.InputItem.cut (λ first. g.C.Carrier.has_done c.args.carrier.now (g.T.Disk.meaning c.args.station.now) first c.args.carrier.now (g.T.Disk.meaning c.args.station.now))
      (g.C.Carrier.is_ready c.args.carrier.now (g.T.Disk.meaning c.args.station.now)) c.new-reader.ensures c.requires.start c.requires.ready;
  input_faults = refl;
  first_fault = omega arith;
}

pub returns-in-Err-clause-few : goal.returns-in-Err-clause-few
returns-in-Err-clause-few g c = few_said c.loop-request.invariant.so_far.read c.read.ensures.says c.read.ensures.few

pub returns-in-Err-clause-ended : goal.returns-in-Err-clause-ended
returns-in-Err-clause-ended g c = went_whole c.loop-request.invariant.so_far (rw c.in-Err.is at c.read.ensures.says)

pub returns-in-Ok-End-clause-few : goal.returns-in-Ok-End-clause-few
returns-in-Ok-End-clause-few g c = few_said c.loop-request.invariant.so_far.read c.read.ensures.says c.read.ensures.few

pub returns-in-Ok-End-clause-ended : goal.returns-in-Ok-End-clause-ended
returns-in-Ok-End-clause-ended g c = went_all c.loop-request.invariant.so_far (rw c.in-Ok-End.field-0-is at (rw c.in-Ok-End.is at c.read.ensures.says))

pub returns-in-Ok-Limit-clause-few : goal.returns-in-Ok-Limit-clause-few
returns-in-Ok-Limit-clause-few g c = few_said c.loop-request.invariant.so_far.read c.read.ensures.says c.read.ensures.few

pub returns-in-Ok-Limit-clause-ended : goal.returns-in-Ok-Limit-clause-ended
returns-in-Ok-Limit-clause-ended g c = went_to_limit c.loop-request.invariant.so_far (rw c.in-Ok-Limit.field-0-is at (rw c.in-Ok-Limit.is at c.read.ensures.says))

pub carry-requires-clause-ready : goal.carry-requires-clause-ready
carry-requires-clause-ready g c =
    let so_far = c.loop-request.invariant.so_far in
    let taken = item_taken so_far.read (rw c.in-Ok-Item.field-0-is at (rw c.in-Ok-Item.is at c.read.ensures.says)) c.read.ensures.few in
    (behind_next c.args.limit so_far.first, ready_next so_far.first _ taken (g.C.Carrier.is_ready c.loop-request.carrier (g.T.Disk.meaning c.loop-request.station)) so_far.ready)

pub returns-in-Err-carry-clause-few : goal.returns-in-Err-carry-clause-few
returns-in-Err-carry-clause-few g c = few_said c.loop-request.invariant.so_far.read c.read.ensures.says c.read.ensures.few

pub returns-in-Err-carry-clause-ended : goal.returns-in-Err-carry-clause-ended
returns-in-Err-carry-clause-ended g c =
    let so_far = c.loop-request.invariant.so_far in
    let taken = item_taken so_far.read (rw c.in-Ok-Item.field-0-is at (rw c.in-Ok-Item.is at c.read.ensures.says)) c.read.ensures.few in
    went_into so_far.first _ taken (λ first item. g.C.Carrier.has_stopped c.args.carrier.now (g.T.Disk.meaning c.args.station.now) first item c.in-Err-carry.fault c.carry.new.self (g.T.Disk.meaning c.carry.new.station))
    (of_item (λ item. g.C.Carrier.has_stopped c.args.carrier.now (g.T.Disk.meaning c.args.station.now) so_far.first item c.in-Err-carry.fault c.carry.new.self (g.T.Disk.meaning c.carry.new.station))
    (c.of-item.ensures.asks c.read.new.payload) (c.in-Err-carry.ensures.carried c.args.carrier.now c.args.station.now so_far.first so_far.done))

pub loop-request-preserved : goal.loop-request-preserved
loop-request-preserved g c =
    let so_far = c.loop-request.invariant.so_far in
    let taken = item_taken so_far.read (rw c.in-Ok-Item.field-0-is at (rw c.in-Ok-Item.is at c.read.ensures.says)) c.read.ensures.few in
    let can = g.C.Carrier.is_ready c.carry.new.self (g.T.Disk.meaning c.carry.new.station) in
    record {
      so_far = so_far_more so_far.first _ taken (λ first. g.C.Carrier.has_done c.args.carrier.now (g.T.Disk.meaning c.args.station.now) first c.carry.new.self (g.T.Disk.meaning c.carry.new.station)) can
          (of_item (λ item. g.C.Carrier.has_done c.args.carrier.now (g.T.Disk.meaning c.args.station.now) (so_far.first ++ item ∷ []) c.carry.new.self (g.T.Disk.meaning c.carry.new.station))
          (c.of-item.ensures.asks c.read.new.payload) (c.in_default.ensures.carried c.args.carrier.now c.args.station.now so_far.first so_far.done))
          (c.in_default.ensures.ready (behind_next c.args.limit so_far.first)
          (ready_next so_far.first _ taken (g.C.Carrier.is_ready c.loop-request.carrier (g.T.Disk.meaning c.loop-request.station)) so_far.ready));
      input_faults = c.in-Ok-Item.ensures.source.cause.stays ∙ c.loop-request.invariant.input_faults;
      first_fault = omega (arith, c.loop-request.invariant.first_fault, c.loop-request.invariant.input_faults, c.in-Ok-Item.ensures.source.first_fault);
    }
