use Rattle.lis_laws.proofs.Steps.{step_keeps}
use Rattle.lis_laws.proofs.steps_keep_form.Goals as goal

pub returns : goal.returns
returns c now item early form = step_keeps now item early form
