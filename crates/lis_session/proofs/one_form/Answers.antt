use Rattle.lis_model.specs.Step.{step}
use Rattle.lis_laws.proofs.Regular.{step_regular}
use Rattle.lis_session.proofs.Same.{same_moment}
use Rattle.lis_session.proofs.one_form.Goals as goal

pub returns : goal.returns
returns c = same_moment step step_regular
