use Rattle.std.proofs.Common.{refl, arith}
use Rattle.lis_memdisk.specs.MemStation.{held, faults_of}
use Rattle.lis_memdisk.proofs.Steps.{run_sync, adds_did, synced_did}
use Rattle.lis_memdisk.proofs.mem_station.MemStationDisk.sync.Goals as goal

pub returns-in-Ok-clause-call : goal.returns-in-Ok-clause-call
returns-in-Ok-clause-call c =
    let m = c.args.self.now in
    record {
      run = run_sync (held m) _ _ (faults_of m) _ c.in-Ok.ensures.did c.in-Ok.ensures.counted.later (omega arith) refl;
      time = adds_did (held m) _ _ _ (faults_of m) _ m.history.sound c.in-Ok.ensures.did c.in-Ok.ensures.counted.later;
      cause = record { later = omega arith; stays = refl; rose = tt };
      began = c.failed-self.ensures;
    }

pub returns-in-Ok-clause-synced : goal.returns-in-Ok-clause-synced
returns-in-Ok-clause-synced c = λ honest. synced_did (held c.args.self.now) _ _ _ _ c.args.self.now.history.sound c.in-Ok.ensures.did
