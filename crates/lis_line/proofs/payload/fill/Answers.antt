use Rattle.std.proofs.Common.{◌∙◌, arith}
use Rattle.lis_line.proofs.Payloads.{filling_more, filling_spent}
use Rattle.lis_line.proofs.payload.fill.Goals as goal

pub returns-then-rest-eq0-clause-fills : goal.returns-then-rest-eq0-clause-fills
returns-then-rest-eq0-clause-fills g c =
    let took = rw c.if-not-branch.false at c.in_ok-take_run.ensures.takes in
    let spent = filling_spent _ c.loop-stock.stock c.take_run.new.stock _ (g.S.Source.left c.loop-stock.source) _ _ c.loop-stock.payload took.0 c.loop-stock.invariant.filling
    took.1 took.2 (omega (arith, took.3, c.size-in-loop-stock.ensures)) (omega arith) in
    (spent.0, spent.1, spent.2, spent.3, omega arith)

pub loop-stock-preserved : goal.loop-stock-preserved
loop-stock-preserved g c =
    let took = rw c.if-not-branch.false at c.in_ok-take_run.ensures.takes in
    record {
      filling = filling_more _ c.loop-stock.stock _ _ (g.S.Source.left c.loop-stock.source) _ _ c.loop-stock.payload _ took.0 c.loop-stock.invariant.filling
          took.1 (omega arith) (omega (arith, took.3, c.size-in-loop-stock.ensures)) (omega arith) took.4;
      few = c.in_ok-take_run.ensures.few;
      faults = c.in_ok-take_run.ensures.source.cause.stays ∙ c.loop-stock.invariant.faults;
      first_fault = omega (arith, c.loop-stock.invariant.first_fault, c.loop-stock.invariant.faults, c.in_ok-take_run.ensures.source.first_fault);
    }
