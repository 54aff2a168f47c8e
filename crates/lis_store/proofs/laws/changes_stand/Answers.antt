use Rattle.lis_store.proofs.Standing.{change_stands}
use Rattle.lis_store.proofs.laws.changes_stand.Goals as goal

pub returns : goal.returns
returns c = change_stands
