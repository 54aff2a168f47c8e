use Rattle.std.proofs.Common.{arith}
use Rattle.lis_memdisk.specs.History.{seen_of}
use Rattle.lis_memdisk.proofs.Steps.{sound_later}
use Rattle.lis_memdisk.proofs.history.History.pass.Goals as goal

pub invariant_of-self-clause-sound : goal.invariant_of-self-clause-sound
invariant_of-self-clause-sound c = λ kept.
    sound_later (seen_of c.args.self.now) _ _ _ (omega arith) (omega arith) (c.args.self.now.sound kept)
