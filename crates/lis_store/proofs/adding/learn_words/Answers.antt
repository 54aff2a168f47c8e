use Rattle.lis_store.proofs.Learning.{next_may, next_room, next_learnt}
use Rattle.lis_store.proofs.adding.learn_words.Goals as goal

pub learn_word-requires-clause-form : goal.learn_word-requires-clause-form
learn_word-requires-clause-form c =
    next_may c.args.metadata.now c.loop-word.metadata c.args.words.now c.loop-word.word-index c.loop-word-test.true c.word-item.result c.word-item.is c.loop-word.invariant.0 c.requires.form

pub learn_word-requires-clause-room : goal.learn_word-requires-clause-room
learn_word-requires-clause-room c =
    next_room c.args.metadata.now c.loop-word.metadata c.args.words.now c.loop-word.word-index c.loop-word-test.true c.word-item.result c.word-item.is c.loop-word.invariant.0 c.requires.room

pub loop-word-preserved : goal.loop-word-preserved
loop-word-preserved c = (
  next_learnt c.args.metadata.now c.loop-word.metadata c.args.words.now c.loop-word.word-index c.loop-word-test.true c.word-item.result c.word-item.is c.loop-word.invariant.0
      c.learn_word.new.metadata c.learn_word.ensures.learns,
  λ _. c.learn_word.ensures.sound,
)
