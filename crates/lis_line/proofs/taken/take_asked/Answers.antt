use Rattle.std.proofs.Common.{◌∙◌, arith}
use Rattle.std.proofs.lemmas.Result.{err_from_is_err_and}
use Rattle.lis_line.proofs.Asking.{skip_more, skip_whole, skip_last, skip_end, skip_past, skip_rest}
use Rattle.lis_line.proofs.taken.take_asked.Goals as goal

pub returns-in_err-asked-clause-gives : goal.returns-in_err-asked-clause-gives
returns-in_err-asked-clause-gives g c =
    let p = err_from_is_err_and c.from_residual.result c.from_residual.ensures.1 in
    rw p.1 (skip_rest c.loop-asked.invariant.skipping c.in_err-asked.ensures.gives)

pub returns-in-Whole-Some-clause-gives : goal.returns-in-Whole-Some-clause-gives
returns-in-Whole-Some-clause-gives g c =
    let segment = rw c.in-Whole-Some.field-0-is at (rw c.in-Whole-Some.is at c.in_ok-asked.ensures.gives) in
    skip_whole c.loop-asked.invariant.skipping (g.I.InputItem.asks c.take_segment.new.payload c.in-Whole-Some.asked) segment

pub loop-asked-preserved : goal.loop-asked-preserved
loop-asked-preserved g c =
    let segment = rw c.in-Whole-None.field-0-is at (rw c.in-Whole-None.is at c.in_ok-asked.ensures.gives) in
    record {
      skipping = skip_more c.loop-asked.invariant.skipping segment;
      faults = c.in_ok-asked.ensures.source.cause.stays ∙ c.loop-asked.invariant.faults;
      first_fault = omega (arith, c.loop-asked.invariant.first_fault, c.loop-asked.invariant.faults, c.in_ok-asked.ensures.source.first_fault);
    }

pub returns-in-Last-Some-clause-gives : goal.returns-in-Last-Some-clause-gives
returns-in-Last-Some-clause-gives g c =
    let segment = rw c.in-Last-Some.field-0-is at (rw c.in-Last-Some.is at c.in_ok-asked.ensures.gives) in
    skip_last c.loop-asked.invariant.skipping (g.I.InputItem.asks c.take_segment.new.payload c.in-Last-Some.asked) segment

pub returns-in-Last-None-clause-gives : goal.returns-in-Last-None-clause-gives
returns-in-Last-None-clause-gives g c =
    let segment = rw c.in-Last-None.field-0-is at (rw c.in-Last-None.is at c.in_ok-asked.ensures.gives) in
    skip_end c.loop-asked.invariant.skipping segment

pub returns-in-PastLimit-clause-gives : goal.returns-in-PastLimit-clause-gives
returns-in-PastLimit-clause-gives g c =
    let segment = rw c.in-PastLimit.is at c.in_ok-asked.ensures.gives in
    skip_past c.loop-asked.invariant.skipping segment
