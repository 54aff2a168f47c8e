use Rattle.std.proofs.Common.{◌*◌, ◌^◌, sym, subst}
use Rattle.lis_memdisk.specs.MemStation.{held, faults_of, meaning_of, state_of}
use Rattle.lis_memdisk.proofs.Steps.{moment_crashed}
use Rattle.lis_memdisk.proofs.mem_station.MemStation.crash.Goals as goal

pub returns-clause-moment : goal.returns-clause-moment
returns-clause-moment c =
    let m = c.args.self.now in
    let moment = moment_crashed (held m) (faults_of m) c.args.call c.args.pick c.requires.kept (m.history.sound c.requires.kept) in
    subst (λ image. (meaning_of m).moments (c.args.call * 2 ^ 64) image (state_of m c.args.call).shown) (sym c.in_ok-image.ensures) moment
