use Rattle.std.proofs.Common.{◌≡◌, false, true, ◌∙◌, arith, rules}
use Rattle.lis_views.specs.Truth.{line_holds}
use Rattle.lis_cuts.proofs.Stretched.{passed_more, run_is, shown_behind, all_passed}
use Rattle.lis_cuts.proofs.stretches.next_stretch.Goals as goal

pub returns-then-line_holds-clause-pieces : goal.returns-then-line_holds-clause-pieces
returns-then-line_holds-clause-pieces c =
    let place = c.args.place.now in
    let p = c.loop-text.invariant.passed in
    let holds : line_holds place c.in-Some.text.now ≡ true = search rules in
    shown_behind place c.args.bytes.now c.loop-text.rest.now c.in-Some.text.now c.in-Some.more.now c.split_at.result.0.now c.loop-text.hidden p c.in-Some.ensures.first holds
    (c.split_at.ensures.front ∙ run_is place c.args.bytes.now c.loop-text.rest.now c.loop-text.hidden p)

pub loop-text-preserved : goal.loop-text-preserved
loop-text-preserved c =
    let fails : line_holds c.args.place.now c.in-Some.text.now ≡ false = search rules in
    record {
      passed = passed_more c.args.place.now c.args.bytes.now c.loop-text.rest.now c.in-Some.text.now c.in-Some.more.now c.loop-text.hidden c.loop-text.invariant.passed c.in-Some.ensures.first fails;
      few = omega (arith, c.loop-text.invariant.few, c.in-Some.ensures.shorter.1);
    }

pub returns-clause-pieces : goal.returns-clause-pieces
returns-clause-pieces c =
    all_passed c.args.place.now c.args.bytes.now c.loop-text.rest.now c.loop-text.hidden c.loop-text.invariant.passed c.in_default.ensures.first
