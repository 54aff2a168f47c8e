use Rattle.lis_session.specs.Session.{root_of}
use Rattle.lis_session.proofs.Saying.{item_none}
use Rattle.lis_parts.proofs.putting.put_file.Goals as goal

-- nothing was done before all of the view was there
pub returns-in-Ok-false-clause-puts : goal.returns-in-Ok-false-clause-puts
returns-in-Ok-false-clause-puts g c = λ bytes is state fitting. item_none (root_of state) fitting

pub returns-in-Err-clause-puts : goal.returns-in-Err-clause-puts
returns-in-Err-clause-puts g c = λ bytes is state fitting. item_none (root_of state) fitting
