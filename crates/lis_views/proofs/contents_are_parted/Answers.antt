use Rattle.lis_views.specs.Lines.{lines_of}
use Rattle.lis_views.proofs.Parting.{parted, one_parting}
use Rattle.lis_views.proofs.contents_are_parted.Goals as goal

pub returns : goal.returns
returns c bytes place = (parted place (lines_of bytes).texts, one_parting place (lines_of bytes).texts)
