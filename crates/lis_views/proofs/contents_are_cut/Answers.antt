use Rattle.lis_views.proofs.Cutting.{one_cut}
use Rattle.lis_views.proofs.contents_are_cut.Goals as goal

pub returns : goal.returns
returns c = one_cut
