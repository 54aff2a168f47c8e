use Rattle.lis_load.proofs.Settling.{matched}
use Rattle.lis_load.proofs.loader.Loader.make_room.Goals as goal

pub returns-then-is_full-clause-ready : goal.returns-then-is_full-clause-ready
returns-then-is_full-clause-ready g c = c.settle.ensures.ready 0 c.requires.ready

pub returns-then-is_full-clause-done : goal.returns-then-is_full-clause-done
returns-then-is_full-clause-done g c = λ start entry first loaded. matched c.settle.result (c.settle.ensures.done start entry first loaded)
