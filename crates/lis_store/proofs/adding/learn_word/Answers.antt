use Rattle.lis_store.proofs.Learning.{word_form, word_headed, word_room, word_learnt}
use Rattle.lis_store.proofs.adding.learn_word.Goals as goal

pub learn-requires-clause-form : goal.learn-requires-clause-form
learn-requires-clause-form c = word_form c.args.metadata.now c.args.word.now c.requires.form c.requires.room c.learn_head.new.metadata c.learn_head.ensures

pub learn-requires-clause-headed : goal.learn-requires-clause-headed
learn-requires-clause-headed c = λ none valued. word_headed c.args.metadata.now c.args.word.now c.requires.form c.requires.room c.learn_head.new.metadata c.learn_head.ensures valued

pub learn-requires-clause-room : goal.learn-requires-clause-room
learn-requires-clause-room c = word_room c.args.metadata.now c.args.word.now c.requires.form c.requires.room c.learn_head.new.metadata c.learn_head.ensures

pub returns-clause-learns : goal.returns-clause-learns
returns-clause-learns c = word_learnt c.args.metadata.now c.args.word.now c.requires.form c.requires.room c.learn_head.new.metadata c.learn_head.ensures c.learn.new.self c.learn.result c.learn.ensures.learns
