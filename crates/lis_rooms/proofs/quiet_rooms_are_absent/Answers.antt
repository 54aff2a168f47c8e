use Rattle.lis_rooms.proofs.Quiet.{quiet_absent}
use Rattle.lis_rooms.proofs.quiet_rooms_are_absent.Goals as goal

pub returns : goal.returns
returns c now items room there quiet = quiet_absent now items room there quiet
