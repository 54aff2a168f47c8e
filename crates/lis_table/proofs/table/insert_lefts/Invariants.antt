use Rattle.std.proofs.Common.{◌≡◌, map, take}
use Rattle.lis_model.specs.Sets.{with_words}
use Rattle.lis_table.proofs.table.insert_lefts.Given as goal

abbrev pub invariant-loop-pair : goal.invariant-loop-pair
invariant-loop-pair l = l.known.items ≡ with_words l.fn.known.items (map (λ pair. pair.0) (take l.pair-index l.axioms))
