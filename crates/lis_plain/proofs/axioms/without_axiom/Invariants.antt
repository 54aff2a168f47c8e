use Rattle.std.proofs.Common.{◌≡◌, not, filter, take}
use Rattle.lis_model.specs.Changes.{same_pair}
use Rattle.lis_plain.proofs.axioms.without_axiom.Given as goal

abbrev pub invariant-loop-held : goal.invariant-loop-held
invariant-loop-held l = l.kept.items ≡ filter (λ p. not (same_pair p l.pair)) (take l.held-index l.axioms)
