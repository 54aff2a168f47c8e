use Rattle.lis_store.proofs.Common.{◌<◌, length, take, ap, arith, length-take-le, filter_le}
use Rattle.lis_store.proofs.Without.{is_other}
use Rattle.lis_store.proofs.testing.numbers_without.Goals as goal

pub push-requires : goal.push-requires
push-requires c =
    let i = c.loop-held.held-index in
    let numbers = c.args.numbers.now in
    let taken = length-take-le i numbers (omega (arith, c.loop-held-test.true)) in
    let less : length c.loop-held.rest.items < 128 = omega (arith, ap length c.loop-held.invariant, filter_le (is_other c.args.number) (take i numbers), taken, c.loop-held-test.true, c.requires) in
    (omega arith, less)
