use Rattle.lis_store.proofs.Counted.{counts_state}
use Rattle.lis_store.proofs.ToldBy.{told_fits}
use Rattle.lis_store.proofs.laws.fitting_stores_count.Goals as goal

pub returns : goal.returns
returns g c k s sound fits = counts_state k s sound (told_fits k (g.D.Disk.meaning c.args.disk.now) s sound fits)
