use Rattle.std.proofs.Common.{ap}
use Rattle.lis_model.specs.Step.{Situation, judged, changed}
use Rattle.lis_plain.proofs.Rows.{as_refused, as_done, row_some, row_none}
use Rattle.lis_plain.proofs.plain.Plain.settle.Goals as goal

pub returns-in-Err : goal.returns-in-Err
returns-in-Err c checks says =
    let now = c.args.self.now in let done = changed now c.args.made in
    as_refused now (judged now checks done) c.in-Err.refusal (row_some checks now done c.in-Err.refusal (rw c.in-Err.is at says))

pub returns-in-Ok : goal.returns-in-Ok
returns-in-Ok c checks says =
    let now = c.args.self.now in let done = changed now c.args.made in
    as_done _ (record { state = c.args.made; place = now.place }) (judged now checks done) (row_none checks now done (rw c.in-Ok.is at says))
    (ap (λ (n : Situation). record { state = c.args.made; place = n.place }) c.self.view_is)
