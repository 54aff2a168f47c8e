use Rattle.std.proofs.Common.{arith}
use Rattle.lis_kept.proofs.Common.{sym, number_below}
use Rattle.lis_kept.proofs.metadata.Metadata.is_declared.Goals as goal

pub get-requires : goal.get-requires
get-requires c =
    let sound = c.self.invariant.sound in
    let below = number_below c.self.inside.dict sound.dict c.args.word.now c.in-Some.number (sym c.in-Some.ensures) in
    omega (arith, below, sound.numbers, sound.bits)
