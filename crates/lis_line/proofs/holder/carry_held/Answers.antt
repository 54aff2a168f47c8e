use Rattle.std.proofs.Common.{List, [], ◌∷◌, ◌++◌, ◌∙◌, arith}
use Rattle.lis_model.specs.Step.{Item}
use Rattle.lis_line.proofs.Given.{few_so_far}
use Rattle.lis_line.proofs.Answered.{item_taken, few_said}
use Rattle.lis_line.proofs.Carrying.{so_far_more, so_far_done, of_item, behind_next, ready_next, went_all, went_to_limit, went_whole, went_front}
use Rattle.lis_line.proofs.Held.{not_true}
use Rattle.lis_line.proofs.holder.carry_held.Goals as goal

pub returns-in-Err-clause-few : goal.returns-in-Err-clause-few
returns-in-Err-clause-few g c = few_so_far c.loop-fault.invariant.so_far.read

pub returns-in-Err-clause-ended : goal.returns-in-Err-clause-ended
returns-in-Err-clause-ended g c =
    let so_far = c.loop-fault.invariant.so_far in
    went_front so_far.read
    (λ first. g.C.Holder.has_stopped c.args.carrier.now (g.T.Disk.meaning c.args.station.now) first c.in-Err.fault c.settle_unless.new.carrier (g.T.Disk.meaning c.settle_unless.new.station))
    (c.in-Err.ensures.done c.args.carrier.now c.args.station.now so_far.first so_far.done)

pub returns-in-Ok-End-clause-few : goal.returns-in-Ok-End-clause-few
returns-in-Ok-End-clause-few g c = few_said c.loop-fault.invariant.so_far.read c.read_held.ensures.says c.read_held.ensures.few

pub returns-in-Ok-End-clause-ended : goal.returns-in-Ok-End-clause-ended
returns-in-Ok-End-clause-ended g c =
    let so_far = c.loop-fault.invariant.so_far in
    let settled = so_far_done so_far
    (λ first. g.C.Holder.has_done c.args.carrier.now (g.T.Disk.meaning c.args.station.now) first c.settle_unless.new.carrier (g.T.Disk.meaning c.settle_unless.new.station))
    (c.in_default.ensures.done c.args.carrier.now c.args.station.now so_far.first so_far.done) in (
      c.in_default.ensures.settled (not_true _ (rw c.in-Ok-End.field-0-is at c.in-Ok-End.ensures.goes_on)),
      went_all settled (rw c.in-Ok-End.field-0-is at (rw c.in-Ok-End.is at c.read_held.ensures.says)),
    )

pub returns-in-Ok-clause-few : goal.returns-in-Ok-clause-few
returns-in-Ok-clause-few g c = few_said c.loop-fault.invariant.so_far.read c.read_held.ensures.says c.read_held.ensures.few

pub returns-in-Ok-clause-ended : goal.returns-in-Ok-clause-ended
returns-in-Ok-clause-ended g c =
    let so_far = c.loop-fault.invariant.so_far in
    let done = c.in_default.ensures.done c.args.carrier.now c.args.station.now so_far.first so_far.done in
    let settled = so_far_done so_far (λ first. g.C.Holder.has_done c.args.carrier.now (g.T.Disk.meaning c.args.station.now) first c.settle.new.self (g.T.Disk.meaning c.settle.new.station))
    (c.in-Ok.ensures.done c.args.carrier.now c.args.station.now so_far.first done) in
    (c.in-Ok.ensures.settled, went_to_limit settled (rw c.in-Ok-Limit.field-0-is at (rw c.in-Ok-Limit.is at c.read_held.ensures.says)))

pub returns-in-Err-settle-clause-few : goal.returns-in-Err-settle-clause-few
returns-in-Err-settle-clause-few g c = few_said c.loop-fault.invariant.so_far.read c.read_held.ensures.says c.read_held.ensures.few

pub returns-in-Err-settle-clause-ended : goal.returns-in-Err-settle-clause-ended
returns-in-Err-settle-clause-ended g c =
    let so_far = c.loop-fault.invariant.so_far in
    let done = c.in_default.ensures.done c.args.carrier.now c.args.station.now so_far.first so_far.done in
    went_front so_far.read
    (λ first. g.C.Holder.has_stopped c.args.carrier.now (g.T.Disk.meaning c.args.station.now) first c.in-Err-settle.fault c.settle.new.self (g.T.Disk.meaning c.settle.new.station))
    (c.in-Err-settle.ensures.done c.args.carrier.now c.args.station.now so_far.first done)

pub returns-in-Err-read_held-clause-few : goal.returns-in-Err-read_held-clause-few
returns-in-Err-read_held-clause-few g c = few_said c.loop-fault.invariant.so_far.read c.read_held.ensures.says c.read_held.ensures.few

pub returns-in-Err-read_held-clause-ended : goal.returns-in-Err-read_held-clause-ended
returns-in-Err-read_held-clause-ended g c =
    let so_far = c.loop-fault.invariant.so_far in
    let settled = so_far_done so_far
    (λ first. g.C.Holder.has_done c.args.carrier.now (g.T.Disk.meaning c.args.station.now) first c.settle_unless.new.carrier (g.T.Disk.meaning c.settle_unless.new.station))
    (c.in_default.ensures.done c.args.carrier.now c.args.station.now so_far.first so_far.done) in
    (c.in_default.ensures.settled (not_true _ c.in-Err-read_held.ensures.goes_on), went_whole settled (rw c.in-Err-read_held.is at c.read_held.ensures.says))

pub carry-requires-clause-ready : goal.carry-requires-clause-ready
carry-requires-clause-ready g c =
    let so_far = c.loop-fault.invariant.so_far in
    let taken = item_taken so_far.read (rw c.in-Ok-Item.field-0-is at (rw c.in-Ok-Item.is at c.read_held.ensures.says)) c.read_held.ensures.few in (
      behind_next c.args.limit so_far.first,
      ready_next so_far.first _ taken (g.C.Holder.is_ready c.settle_unless.new.carrier (g.T.Disk.meaning c.settle_unless.new.station)) (c.in_default.ensures.ready _ so_far.ready),
    )

pub returns-in-Err-carry-clause-few : goal.returns-in-Err-carry-clause-few
returns-in-Err-carry-clause-few g c = few_said c.loop-fault.invariant.so_far.read c.read_held.ensures.says c.read_held.ensures.few

pub returns-in-Err-carry-clause-ended : goal.returns-in-Err-carry-clause-ended
returns-in-Err-carry-clause-ended g c =
    let so_far = c.loop-fault.invariant.so_far in
    let taken = item_taken so_far.read (rw c.in-Ok-Item.field-0-is at (rw c.in-Ok-Item.is at c.read_held.ensures.says)) c.read_held.ensures.few in
    let stopped = λ (first : List Item). g.C.Holder.has_stopped c.args.carrier.now (g.T.Disk.meaning c.args.station.now) first c.in-Err-carry.fault c.carry.new.self (g.T.Disk.meaning c.carry.new.station) in
    went_front taken stopped
    (of_item (λ asked. stopped (so_far.first ++ asked ∷ []))
    (c.of-item.ensures.asks c.read_held.new.payload)
    (c.in-Err-carry.ensures.carried c.args.carrier.now c.args.station.now so_far.first (c.in_default.ensures.done c.args.carrier.now c.args.station.now so_far.first so_far.done)))

pub loop-fault-preserved : goal.loop-fault-preserved
loop-fault-preserved g c =
    let so_far = c.loop-fault.invariant.so_far in
    let taken = item_taken so_far.read (rw c.in-Ok-Item.field-0-is at (rw c.in-Ok-Item.is at c.read_held.ensures.says)) c.read_held.ensures.few in
    let done = λ (first : List Item). g.C.Holder.has_done c.args.carrier.now (g.T.Disk.meaning c.args.station.now) first c.carry.new.self (g.T.Disk.meaning c.carry.new.station) in
    let can = g.C.Holder.is_ready c.carry.new.self (g.T.Disk.meaning c.carry.new.station) in
    record {
      so_far = so_far_more so_far.first _ taken done can
          (of_item (λ asked. done (so_far.first ++ asked ∷ []))
          (c.of-item.ensures.asks c.read_held.new.payload)
          (c.in_default-carry.ensures.carried c.args.carrier.now c.args.station.now so_far.first (c.in_default.ensures.done c.args.carrier.now c.args.station.now so_far.first so_far.done)))
          (c.in_default-carry.ensures.ready (behind_next c.args.limit so_far.first)
          (ready_next so_far.first _ taken (g.C.Holder.is_ready c.settle_unless.new.carrier (g.T.Disk.meaning c.settle_unless.new.station)) (c.in_default.ensures.ready _ so_far.ready)));
      input_faults = c.in-Ok-Item.ensures.source.cause.stays ∙ c.loop-fault.invariant.input_faults;
      first_fault = omega (arith, c.loop-fault.invariant.first_fault, c.loop-fault.invariant.input_faults, c.in-Ok-Item.ensures.source.first_fault);
    }
