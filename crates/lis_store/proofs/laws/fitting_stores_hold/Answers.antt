use Rattle.lis_store.proofs.StoreSays.{sizes_told}
use Rattle.lis_store.proofs.ToldBy.{told_fits}
use Rattle.lis_store.proofs.laws.fitting_stores_hold.Goals as goal

pub returns : goal.returns
returns g c k s sound fits = sizes_told k s sound (told_fits k (g.D.Disk.meaning c.args.disk.now) s sound fits)
