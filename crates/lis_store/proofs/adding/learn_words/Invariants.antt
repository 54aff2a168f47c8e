use Rattle.lis_store.proofs.Common.{take, AreSound}
use Rattle.lis_store.specs.Adding.{with_heads, LearnsAll}
use Rattle.lis_store.proofs.adding.learn_words.Given as goal

-- the words so far have numbers, and memory stays sound
abbrev pub invariant-loop-word : goal.invariant-loop-word
invariant-loop-word l = LearnsAll (with_heads (take l.word-index l.words)) l.initial.metadata l.metadata × (AreSound l.initial.metadata → AreSound l.metadata)
