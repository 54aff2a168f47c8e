use Rattle.lis_store.proofs.Common.{ap, arith, Limits}
use Rattle.lis_store.proofs.Refiled.{all_filed}
use Rattle.lis_store.proofs.replacing.free_slot.Goals as goal

pub unreachable-requires : goal.unreachable-requires
unreachable-requires c =
    let all = all_filed c.args.metadata.now c.requires.sound (λ slot lt.
    c.loop-slot.invariant slot (omega (arith, lt, c.loop-slot-test.false, ap (λ (l : Limits). l.files) c.limits.ensures.value))) in
    omega (arith, all, c.requires.room)
