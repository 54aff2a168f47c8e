use Rattle.lis_store.proofs.Common.{◌≡◌, not, ◌&&◌, take, count_by, is_used, emptied}
use Rattle.lis_taxonomy.specs.Search.{is_found}
use Rattle.lis_store.proofs.describing.leaving.Given as goal

-- of the numbers so far, those that go out of use
abbrev pub invariant-loop-number : goal.invariant-loop-number
invariant-loop-number l = l.count ≡ count_by (λ n. not (is_found l.found n) && not (is_used (emptied l.metadata l.slot) n)) (take l.number-index l.number-items)
