use Rattle.std.proofs.lemmas.Result.{err_from_is_err_and}
use Rattle.lis_grow.proofs.Showing.{first_broke, second_broke, all_shown}
use Rattle.lis_grow.proofs.summary.show_summary.Goals as goal

pub returns-in_err-show_two : goal.returns-in_err-show_two
returns-in_err-show_two g c =
    let sum = c.args.sum.now in
    let last = c.args.last.now in
    let p = err_from_is_err_and c.from_residual.result c.from_residual.ensures.1 in
    rw (p.1, p.2) (first_broke sum.replies sum.refused last.files last.axioms last.free sum.listed c.in_err-show_two.field-0.0 c.in_err-show_two.ensures)

pub returns-in_err-show_two-2 : goal.returns-in_err-show_two-2
returns-in_err-show_two-2 g c =
    let sum = c.args.sum.now in
    let last = c.args.last.now in
    let p = err_from_is_err_and c.from_residual-in_err-show_two-2.result c.from_residual-in_err-show_two-2.ensures.1 in
    rw (p.1, p.2)
    (second_broke sum.replies sum.refused last.files last.axioms last.free sum.listed c.in_ok-show_two.field-0 c.in_ok-show_two.ensures c.in_err-show_two-2.field-0.0
    (rw (c.from.ensures, c.from-2.ensures) at c.in_err-show_two-2.ensures))

pub returns : goal.returns
returns g c =
    let sum = c.args.sum.now in
    let last = c.args.last.now in
    all_shown sum.replies sum.refused last.files last.axioms last.free sum.listed c.in_ok-show_two.field-0 c.in_ok-show_two.ensures c.in_ok-show_two-2.field-0 c.show_two-3.result
    (rw (c.from.ensures, c.from-2.ensures) at c.in_ok-show_two-2.ensures) (rw c.from-3.ensures at c.show_two-3.ensures)
