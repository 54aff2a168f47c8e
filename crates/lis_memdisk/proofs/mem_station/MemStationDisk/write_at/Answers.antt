use Rattle.std.proofs.Common.{refl, arith}
use Rattle.lis_memdisk.specs.MemStation.{held, faults_of}
use Rattle.lis_memdisk.proofs.Steps.{run_write, adds_did, torn_did, written_did}
use Rattle.lis_memdisk.proofs.mem_station.MemStationDisk.write_at.Goals as goal

pub returns-in-Ok-clause-call : goal.returns-in-Ok-clause-call
returns-in-Ok-clause-call c =
    let m = c.args.self.now in
    record {
      run = run_write (held m) _ c.args.at c.args.bytes.now _ (faults_of m) _ c.in-Ok.ensures.did c.requires c.in-Ok.ensures.counted.later (omega arith) refl;
      time = adds_did (held m) _ _ _ (faults_of m) _ m.history.sound c.in-Ok.ensures.did c.in-Ok.ensures.counted.later;
      cause = record { later = omega arith; stays = refl; rose = tt };
      began = c.failed-self.ensures;
    }

pub returns-in-Ok-clause-torn : goal.returns-in-Ok-clause-torn
returns-in-Ok-clause-torn c = λ honest. torn_did (held c.args.self.now) _ c.args.at c.args.bytes.now _ _ _ c.in-Ok.ensures.did c.requires

pub returns-in-Ok-clause-written : goal.returns-in-Ok-clause-written
returns-in-Ok-clause-written c = λ honest. written_did (held c.args.self.now) _ c.args.at c.args.bytes.now _ _ _ c.in-Ok.ensures.did
