use Rattle.lis_rooms.proofs.Follows.{hears_the_same}
use Rattle.lis_rooms.proofs.rooms_see_own.Goals as goal

pub returns : goal.returns
returns c now items others room there alike = hears_the_same now items others room there alike
