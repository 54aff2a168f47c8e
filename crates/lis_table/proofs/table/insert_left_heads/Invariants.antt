use Rattle.std.proofs.Common.{◌≡◌, take}
use Rattle.std.specs.List.{flat_map}
use Rattle.lis_model.specs.Sets.{with_words}
use Rattle.lis_model.specs.State.{heads}
use Rattle.lis_table.proofs.table.insert_left_heads.Given as goal

abbrev pub invariant-loop-pair : goal.invariant-loop-pair
invariant-loop-pair l = l.known.items ≡ with_words l.fn.known.items (flat_map (λ pair. heads pair.0) (take l.pair-index l.axioms))
