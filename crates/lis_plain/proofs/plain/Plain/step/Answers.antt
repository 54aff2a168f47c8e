use Rattle.lis_model.specs.Step.{step}
use Rattle.lis_plain.proofs.plain.Plain.step.Goals as goal

pub returns-in-Command-clause-step : goal.returns-in-Command-clause-step
unfolding step
returns-in-Command-clause-step g c = rw c.in-Command.is c.carry_out.ensures.step

pub returns-in-Bad-clause-step : goal.returns-in-Bad-clause-step
unfolding step
returns-in-Bad-clause-step g c = rw c.in-Bad.is c.refuse.ensures.step
