use Rattle.std.proofs.Common.{◌≡◌, take}
use Rattle.lis_model.specs.Sets.{with_words}
use Rattle.lis_table.proofs.words.insert_words.Given as goal

abbrev pub invariant-loop-word : goal.invariant-loop-word
invariant-loop-word l = l.words.items ≡ with_words l.fn.words.items (take l.word-index l.more)
