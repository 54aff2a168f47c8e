use Rattle.lis_store.proofs.Counted.{axioms_are}
use Rattle.lis_store.proofs.ToldBy.{told_fits}
use Rattle.lis_store.proofs.laws.fitting_stores_have_axioms.Goals as goal

pub returns : goal.returns
returns g c k s sound fits = axioms_are k s sound (told_fits k (g.D.Disk.meaning c.args.disk.now) s sound fits)
