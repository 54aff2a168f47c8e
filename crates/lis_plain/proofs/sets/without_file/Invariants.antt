use Rattle.std.proofs.Common.{◌≡◌, not, filter, take}
use Rattle.lis_words.specs.Words.{same_word}
use Rattle.lis_model.specs.State.{File}
use Rattle.lis_plain.proofs.sets.without_file.Given as goal

abbrev pub invariant-loop-file : goal.invariant-loop-file
invariant-loop-file l = l.kept.items ≡ filter (λ (file : File). not (same_word file.name l.name)) (take l.file-index l.files)
