use Rattle.std.proofs.Common.{◌≡◌, drop}
use Rattle.std.specs.List.{list_any}
use Rattle.lis_words.specs.Words.{has_word}
use Rattle.lis_model.specs.State.{description}
use Rattle.lis_plain.proofs.room.is_described.Given as goal

abbrev pub invariant-loop-file : goal.invariant-loop-file
invariant-loop-file l =
    list_any (λ file. has_word (description l.state file) l.word) (drop l.file-index l.state.files)
    ≡ list_any (λ file. has_word (description l.state file) l.word) l.state.files
