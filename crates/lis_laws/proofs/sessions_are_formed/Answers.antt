use Rattle.lis_model.specs.Step.{start_of}
use Rattle.lis_model.specs.Script.{script}
use Rattle.lis_laws.proofs.Items.{items_formed}
use Rattle.lis_laws.proofs.Steps.{items_keep, start_formed}
use Rattle.lis_laws.proofs.sessions_are_formed.Goals as goal

pub returns : goal.returns
returns c limits in_range bytes limit = items_keep (start_of limits) (script bytes limit) (start_formed limits in_range) (items_formed bytes limit)
