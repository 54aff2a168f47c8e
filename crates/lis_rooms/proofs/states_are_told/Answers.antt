use Rattle.lis_rooms.proofs.States.{same_state_decides}
use Rattle.lis_rooms.proofs.states_are_told.Goals as goal

pub returns : goal.returns
returns c a b = same_state_decides a b
