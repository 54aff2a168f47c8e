use Rattle.std.proofs.Common.{◌≡◌, map, take}
use Rattle.lis_model.specs.State.{up}
use Rattle.lis_table.proofs.table.all_ups.Given as goal

abbrev pub invariant-loop-word : goal.invariant-loop-word
invariant-loop-word l = l.entailed.items ≡ map (λ p. (p, up l.declared l.axioms p)) (take l.word-index l.known)
