use Rattle.std.proofs.Common.{◌≡◌, not, filter, take}
use Rattle.lis_words.specs.Words.{same_word}
use Rattle.lis_plain.proofs.made.words_but.Given as goal

abbrev pub invariant-loop-held : goal.invariant-loop-held
invariant-loop-held l = l.kept.items ≡ filter (λ w. not (same_word w l.word)) (take l.held-index l.words)
