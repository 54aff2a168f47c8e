use Rattle.std.proofs.Common.{◌≡◌, take}
use Rattle.std.specs.List.{fold}
use Rattle.lis_model.specs.Changes.{with_axiom}
use Rattle.lis_plain.proofs.axioms.insert_axioms.Given as goal

abbrev pub invariant-loop-right : goal.invariant-loop-right
invariant-loop-right l = l.axioms.items ≡ fold (λ kept q. with_axiom kept (l.left, q)) l.fn.axioms.items (take l.right-index l.rights)
