use Rattle.std.proofs.Common.{◌≡◌, not, filter, take}
use Rattle.lis_words.specs.Words.{has_word}
use Rattle.lis_table.proofs.tags.without.Given as goal

abbrev pub invariant-loop-word : goal.invariant-loop-word
invariant-loop-word l = l.kept.items ≡ filter (λ word. not (has_word l.others word)) (take l.word-index l.words)
