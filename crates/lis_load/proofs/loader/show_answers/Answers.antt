use Rattle.std.proofs.Common.{ap, arith}
use Rattle.std.proofs.lemmas.List.{drop_more}
use Rattle.std.specs.List.{flat_map}
use Rattle.lis_session.proofs.InTurn.{text_more, text_broke}
use Rattle.lis_load.specs.Loading.{answer}
use Rattle.lis_load.proofs.loader.show_answers.Goals as goal

pub loop-refused-preserved : goal.loop-refused-preserved
loop-refused-preserved g c =
    text_more c.loop-refused.invariant (ap (flat_map answer) (drop_more c.args.held.now c.loop-refused.refused-index _ (omega (arith, c.loop-refused-test.true)))) c.in_ok-show_answer.ensures

pub returns-in_err-show_answer : goal.returns-in_err-show_answer
returns-in_err-show_answer g c =
    text_broke _ c.loop-refused.invariant (ap (flat_map answer) (drop_more c.args.held.now c.loop-refused.refused-index _ (omega (arith, c.loop-refused-test.true)))) c.in_err-show_answer.ensures
    c.from_residual.ensures.1
