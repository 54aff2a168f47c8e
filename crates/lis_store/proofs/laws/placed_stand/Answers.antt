use Rattle.lis_store.proofs.Standing.{placed_stand}
use Rattle.lis_store.proofs.laws.placed_stand.Goals as goal

pub returns : goal.returns
returns c = placed_stand
