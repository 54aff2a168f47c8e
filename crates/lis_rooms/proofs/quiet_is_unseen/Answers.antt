use Rattle.lis_rooms.proofs.Quiet.{quiet_unseen}
use Rattle.lis_rooms.proofs.quiet_is_unseen.Goals as goal

pub returns : goal.returns
returns c now first others tagged room there other stays = quiet_unseen now first others tagged room there other stays
