use Rattle.lis_store.proofs.Common.{◌≡◌, ◌==◌, not, filter, take}
use Rattle.lis_store.proofs.testing.numbers_without.Given as goal

-- the others so far
abbrev pub invariant-loop-held : goal.invariant-loop-held
invariant-loop-held l = l.rest.items ≡ filter (λ n. not (n == l.number)) (take l.held-index l.numbers)
