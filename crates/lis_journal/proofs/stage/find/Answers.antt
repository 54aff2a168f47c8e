use Rattle.std.proofs.Common.{arith}
use Rattle.lis_journal.proofs.Places.{rise_below, rise_above, found_at, place_from, place_above}
use Rattle.lis_journal.proofs.stage.find.Goals as goal
use Rattle.lis_journal.proofs.stage.find.Goals.{else-low-staged-via-then-low-staged+else-staged-low, else-low-staged-via-else-low-staged}

pub loop-low-preserved-then-staged-middle : goal.loop-low-preserved-then-staged-middle
loop-low-preserved-then-staged-middle c = record {
  in_order = omega arith;
  in_range = c.loop-low.invariant.in_range;
  below = rise_below c.requires.0 c.requires.1.0 c.args.n _ c.args.staged.now _ c.requires.1.1 (omega arith) c.if-staged-middle.true;
  above = c.loop-low.invariant.above;
}

pub loop-low-preserved : goal.loop-low-preserved
loop-low-preserved c = record {
  in_order = omega arith;
  in_range = omega arith;
  below = c.loop-low.invariant.below;
  above = rise_above c.requires.0 c.requires.1.0 c.args.n _ c.args.staged.now _ c.requires.1.1 (omega arith) c.if-staged-middle.false;
}

pub returns-then-staged-low-clause-place : goal.returns-then-staged-low-clause-place
returns-then-staged-low-clause-place c =
    found_at c.args.n c.loop-low.low c.args.staged.now _ c.if-low-staged.true (λ j h. c.loop-low.invariant.below j _ h) c.if-staged-low.true

pub returns-else-low-staged-clause-place : goal.returns-else-low-staged-clause-place
returns-else-low-staged-clause-place c =
    let inv = c.loop-low.invariant in
    place_from c.args.n c.loop-low.low c.args.staged.now (omega arith) inv.below (elim c.else-low-staged.branch [
      | else-low-staged-via-then-low-staged+else-staged-low w ↦ place_above c.args.n c.loop-low.low c.args.staged.now _ w.if-staged-low.false (λ j d le. inv.above j d (omega (arith, le)))
      | else-low-staged-via-else-low-staged w ↦ λ d lt. absurd (omega arith)
    ])
