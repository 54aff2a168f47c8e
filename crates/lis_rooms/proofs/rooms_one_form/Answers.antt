use Rattle.lis_session.proofs.Same.{same_moment}
use Rattle.lis_rooms.specs.Rooms.{room_step}
use Rattle.lis_rooms.proofs.Steps.{room_step_regular}
use Rattle.lis_rooms.proofs.rooms_one_form.Goals as goal

pub returns : goal.returns
returns c = same_moment room_step room_step_regular
