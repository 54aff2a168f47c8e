use Rattle.std.proofs.Common.{◌≡◌, nat_lt, length, drop}
use Rattle.std.specs.List.{list_any}
use Rattle.lis_model.specs.State.{File, description}
use Rattle.lis_model.specs.Step.{exceeds_words}
use Rattle.lis_plain.proofs.room.exceeds_words.Given as goal

abbrev pub invariant-loop-file : goal.invariant-loop-file
invariant-loop-file l = list_any (λ (file : File). nat_lt 128 (length (description l.state file))) (drop l.file-index l.state.files) ≡ exceeds_words l.state
