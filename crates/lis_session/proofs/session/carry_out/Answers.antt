use Rattle.std.proofs.Common.{refl}
use Rattle.lis_model.specs.Step.{Situation, refused, step}
use Rattle.lis_session.proofs.Saying.{shows_item}
use Rattle.lis_session.proofs.session.carry_out.Goals as goal

pub returns-in-Command-clause-carries : goal.returns-in-Command-clause-carries
unfolding step
returns-in-Command-clause-carries g c = rw c.in-Command.is c.carry_command.ensures.carries

pub returns-in-Bad-clause-carries : goal.returns-in-Bad-clause-carries
unfolding step
returns-in-Bad-clause-carries g c =
    rw c.in-Bad.is (λ state fitting.
    let now : Situation = record { state = state; place = c.args.place.now } in
    shows_item (refused now c.in-Bad.refusal) c.args.place.now fitting c.answer_refusal.ensures refl)
