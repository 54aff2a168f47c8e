use Rattle.lis_store.proofs.Common.{length, ◌<◌, arith}
use Rattle.lis_store.proofs.InsteadGiven.{told_next}
use Rattle.lis_store.proofs.instead.words_of.Goals as goal

pub loop-number-preserved : goal.loop-number-preserved
loop-number-preserved c =
    let numbers = c.args.numbers.now in
    let i = c.loop-number.number-index in
    let lt : i < length numbers = omega (arith, c.loop-number-test.true, c.loop-number.auto.number-index-end) in
    told_next c.args.metadata.now.dict numbers i lt c.requires c.loop-number.words.items c.put_number.new.words.items c.put_number.result c.loop-number.invariant.0 c.loop-number.invariant.1 c.put_number.ensures
