use Rattle.lis_store.proofs.Common.{take, arith, length-take-le}
use Rattle.lis_store.proofs.Gathered.{notes_none, notes_next, with_heads_few}
use Rattle.lis_store.proofs.describing.note_all.Goals as goal

pub loop-word-init : goal.loop-word-init
loop-word-init c = notes_none c.args.metadata.now c.args.fresh.now.items

pub note_with_head-requires : goal.note_with_head-requires
note_with_head-requires c =
    let words = c.args.words.now in
    let i = c.loop-word.word-index in
    let few = with_heads_few (take i words) in
    let long = length-take-le i words (omega (arith, c.loop-word-test.true, c.loop-word.auto.word-index-end)) in
    omega (arith, c.requires, c.loop-word.invariant.few, few, long, c.loop-word-test.true, c.loop-word.auto.word-index-end)

pub loop-word-preserved : goal.loop-word-preserved
loop-word-preserved c =
    notes_next c.args.metadata.now c.args.words.now c.loop-word.word-index c.word-item.result (omega (arith, c.loop-word-test.true, c.loop-word.auto.word-index-end)) c.word-item.is
    c.args.fresh.now.items c.loop-word.fresh.items c.note_with_head.new.fresh.items
    c.loop-word.invariant c.note_with_head.ensures
