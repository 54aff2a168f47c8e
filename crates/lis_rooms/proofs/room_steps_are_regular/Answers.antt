use Rattle.lis_rooms.proofs.Steps.{room_step_regular}
use Rattle.lis_rooms.proofs.room_steps_are_regular.Goals as goal

pub returns : goal.returns
returns c = record {
  some = λ now tagged. (room_step_regular now tagged).some;
  limits = λ now tagged. (room_step_regular now tagged).limits;
}
