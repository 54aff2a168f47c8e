use Rattle.lis_views.proofs.Edits.{unchanged_stays}
use Rattle.lis_views.proofs.unchanged_stays.Goals as goal

pub returns : goal.returns
returns c = unchanged_stays
