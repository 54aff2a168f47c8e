use Rattle.lis_open.proofs.Damage.{damaged}
use Rattle.lis_open.proofs.laws.failing_stands_for_none.Goals as goal

pub returns : goal.returns
returns c = damaged
