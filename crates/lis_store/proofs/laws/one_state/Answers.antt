use Rattle.lis_store.proofs.OneState.{one_state}
use Rattle.lis_store.proofs.laws.one_state.Goals as goal

pub returns : goal.returns
returns c = one_state
