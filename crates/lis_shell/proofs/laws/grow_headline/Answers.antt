use Rattle.std.proofs.Common.{[]}
use Rattle.lis_shell.proofs.laws.grow_headline.Goals as goal

pub returns : goal.returns
returns g c n state input image image_after said entry = said state [] entry
