use Rattle.std.proofs.Common.{Ok, Err}
use Rattle.std.proofs.lemmas.Result.{err_from_is_err_and}
use Rattle.lis_session.proofs.Laws.{cd_arrives}
use Rattle.lis_session.proofs.moving.go.Goals as goal

pub returns : goal.returns
returns c = λ state told. cd_arrives (record { state = state; place = c.args.place.now }) c.args.text.now _ (Ok c.in_ok-next.next) told c.in_ok-next.ensures

pub returns-in_err-next : goal.returns-in_err-next
returns-in_err-next c =
    let p = err_from_is_err_and c.from_residual.result c.from_residual.ensures.1 in
    rw (p.1, p.2) (λ state told. cd_arrives (record { state = state; place = c.args.place.now }) c.args.text.now _ (Err c.in_err-next.field-0.0) told c.in_err-next.ensures)
