use Rattle.lis_line.specs.Spoken.{tagged_by}
use Rattle.lis_session.proofs.Going.{has_carried, is_usable_after}
use Rattle.lis_rooms.specs.Rooms.{room_step}
use Rattle.lis_rooms.proofs.Steps.{room_step_regular}
use Rattle.lis_rooms.proofs.carrying.RoomsCarrier.carry.Goals as goal

pub step-requires-clause-usable : goal.step-requires-clause-usable
step-requires-clause-usable g c = c.requires.ready.1

pub returns-clause-ready : goal.returns-clause-ready
returns-clause-ready g c = λ more ready. is_usable_after c.step.result c.step.ensures.keeps ready

pub returns-clause-carried : goal.returns-clause-carried
returns-clause-carried g c = λ start entry first done.
    has_carried room_step room_step_regular c.step.new.self done (tagged_by c.args.tagged.now c.args.payload.now) c.step.result c.step.ensures.keeps c.step.ensures.carries
