use Rattle.lis_views.proofs.Edits.{hidden_stay}
use Rattle.lis_views.proofs.hidden_stay.Goals as goal

pub returns : goal.returns
returns c = hidden_stay
