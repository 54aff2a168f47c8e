use Rattle.std.proofs.Common.{sym, subst}
use Rattle.lis_eval.specs.View.{table_of}
use Rattle.lis_incr.specs.Marked.{is_top}
use Rattle.lis_incr.specs.Walking.{IsStepBy}
use Rattle.lis_incr.proofs.Firsts.{unplaced}
use Rattle.lis_incr.proofs.walk.step_by.Goals as goal

-- no word has the number
pub returns-in_err-place : goal.returns-in_err-place
returns-in_err-place g c = λ test are.
    let v = g.V.View.seen c.args.view.now in
    subst (IsStepBy v (is_top (table_of v) test) c.args.number) (sym c.from_residual.ensures) (λ w there same. absurd (unplaced v c.args.number (sym c.in_err-place.ensures) w there same))
