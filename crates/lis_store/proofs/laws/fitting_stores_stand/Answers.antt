use Rattle.lis_store.proofs.Standing.{fitting_stands}
use Rattle.lis_store.proofs.laws.fitting_stores_stand.Goals as goal

pub returns : goal.returns
returns g c = fitting_stands (g.D.Disk.meaning c.args.disk.now)
