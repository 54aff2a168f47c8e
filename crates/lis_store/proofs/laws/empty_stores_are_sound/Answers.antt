use Rattle.lis_store.proofs.Empty.{empty_sound}
use Rattle.lis_store.proofs.laws.empty_stores_are_sound.Goals as goal

pub returns : goal.returns
returns c = empty_sound
