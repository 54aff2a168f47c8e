use Rattle.lis_store.proofs.Common.{◌≡◌, ◌+◌, not, length, take, count_by}
use Rattle.lis_taxonomy.specs.Search.{is_found}
use Rattle.lis_store.proofs.crowding.wider_count.Given as goal

-- all that was found is counted, and of the file's own numbers so far those that were not
abbrev pub invariant-loop-number : goal.invariant-loop-number
invariant-loop-number l = l.count ≡ length l.gained + count_by (λ n. not (is_found l.gained n)) (take l.number-index l.own)
