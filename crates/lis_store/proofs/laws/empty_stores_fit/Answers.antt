use Rattle.lis_store.proofs.Empty.{empty_fits}
use Rattle.lis_store.proofs.laws.empty_stores_fit.Goals as goal

pub returns : goal.returns
returns g c = empty_fits (g.D.Disk.meaning c.args.disk.now)
