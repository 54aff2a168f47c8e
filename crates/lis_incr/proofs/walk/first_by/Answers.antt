use Rattle.std.proofs.Common.{◌+◌, take, sym, subst, arith}
use Rattle.std.proofs.lemmas.List.{take_all}
use Rattle.lis_eval.specs.View.{table_of}
use Rattle.lis_incr.specs.Marked.{is_top}
use Rattle.lis_incr.specs.Walking.{IsFirstBy}
use Rattle.lis_incr.proofs.Firsts.{first_more}
use Rattle.lis_incr.proofs.walk.first_by.Goals as goal

pub loop-number-preserved : goal.loop-number-preserved
loop-number-preserved g c = λ test are.
    let v = g.V.View.seen c.args.view.now in
    let l = c.loop-number in
    let numbers = c.args.numbers.now in
    let more = first_more v (is_top (table_of v) test) numbers l.number-index c.loop-number-test.true l.first c.step_by.result (l.invariant test are) (c.step_by.ensures test are) in
    subst (IsFirstBy v (is_top (table_of v) test) (take (l.number-index + 1) numbers)) (sym c.earlier-first.ensures) more

pub returns : goal.returns
returns g c = λ test are.
    let v = g.V.View.seen c.args.view.now in
    let l = c.loop-number in
    let all = take_all l.number-index c.args.numbers.now (omega arith) in
    subst (λ ns. IsFirstBy v (is_top (table_of v) test) ns l.first) all (l.invariant test are)
