use Rattle.std.proofs.Common.{refl}
use Rattle.lis_memdisk.specs.MemStation.{held, faults_of}
use Rattle.lis_memdisk.proofs.Steps.{call_show, adds_did}
use Rattle.lis_memdisk.proofs.mem_station.MemStationStation.show.Goals as goal

pub returns-in-Ok-clause-call : goal.returns-in-Ok-clause-call
returns-in-Ok-clause-call c = call_show (held c.args.self.now) _ _ _ (faults_of c.args.self.now) _ c.in-Ok.ensures.did refl

pub returns-in-Ok-clause-time : goal.returns-in-Ok-clause-time
returns-in-Ok-clause-time c =
    let m = c.args.self.now in
    adds_did (held m) _ _ _ (faults_of m) _ m.history.sound c.in-Ok.ensures.did c.in-Ok.ensures.counted.later
