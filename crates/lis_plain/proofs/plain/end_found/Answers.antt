use Rattle.std.proofs.Common.{◌∙◌, Ok, ap, sym}
use Rattle.std.specs.Io.KnownBytes.{append_known}
use Rattle.lis_model.specs.Step.{Outcome}
use Rattle.lis_plain.proofs.plain.end_found.Goals as goal

pub returns-in_ok-show_refusal-in-None-clause-step : goal.returns-in_ok-show_refusal-in-None-clause-step
returns-in_ok-show_refusal-in-None-clause-step g c = λ outcome now says.
    let told = rw (c.in_ok-found.was ∙ ap Ok c.in-None.is) at says in (
      ap (λ (o : Outcome). o.next) (sym told),
      c.in_ok-show_refusal-in-None.ensures.shown ∙ ap (λ (o : Outcome). append_known (g.T.Disk.meaning c.args.station.now).shown o.reply) (sym told),
    )

pub returns-in_ok-show_all-in-Some-clause-step : goal.returns-in_ok-show_all-in-Some-clause-step
returns-in_ok-show_all-in-Some-clause-step g c = λ outcome now says.
    let told = rw (c.in_ok-found.was ∙ ap Ok c.in-Some.is) at says in (
      ap (λ (o : Outcome). o.next) (sym told),
      ◌∙◌ {b = append_known (g.T.Disk.meaning c.args.station.now).shown c.deref.result.now}
          c.in_ok-show_all-in-Some.ensures.shown
          (ap (append_known (g.T.Disk.meaning c.args.station.now).shown) (c.deref.ensures.value ∙ ap (λ (o : Outcome). o.reply) (sym told))),
    )
