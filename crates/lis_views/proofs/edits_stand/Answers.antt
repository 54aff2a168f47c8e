use Rattle.lis_views.proofs.Edits.{edits_stand}
use Rattle.lis_views.proofs.edits_stand.Goals as goal

pub returns : goal.returns
returns c = edits_stand
