use Rattle.lis_store.proofs.Common.{◌∙◌, ◌<◌, ◌++◌, length, filter, ap, arith, take_all, named_below}
use Rattle.lis_store.specs.Closing.{is_base, added}
use Rattle.lis_store.proofs.Crowded.{named_at}
use Rattle.lis_store.proofs.Rebuilt.{base_room}
use Rattle.lis_store.proofs.closing.base_at.Goals as goal

pub is_base-requires-clause-number : goal.is_base-requires-clause-number
is_base-requires-clause-number c =
    let k = c.args.metadata.now in
    named_below k c.requires.sound _ (named_at k c.args.numbers.now c.requires.numbers c.loop-number.number-index c.loop-number-test.true)

pub push-requires : goal.push-requires
push-requires c =
    let k = c.args.metadata.now in
    let room : length c.loop-number.base.items < 129 =
    base_room c.args.how (is_base k c.args.how c.args.slot) c.args.numbers.now c.loop-number.base.items c.loop-number.number-index c.loop-number-test.true c.requires.few c.loop-number.invariant in
    (omega arith, room)

pub returns : goal.returns
returns c =
    let k = c.args.metadata.now in
    c.loop-number.invariant
    ∙ ap (λ ns. added c.args.how ++ filter (is_base k c.args.how c.args.slot) ns)
    (take_all c.loop-number.number-index c.args.numbers.now c.loop-number-test.false ∙ c.requires.are)
