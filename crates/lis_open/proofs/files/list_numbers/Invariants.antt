use Rattle.lis_open.proofs.Common.{ℕ, ◌≡◌, ◌≤◌, ◌-◌, ◌++◌, length}
use Rattle.lis_ext.specs.Numbers.{numbers_where}
use Rattle.lis_ext.proofs.Numbers.{numbers_from}
use Rattle.lis_taxonomy.specs.Search.{is_found}
use Rattle.lis_open.proofs.files.list_numbers.Given as goal

-- The limit has a name: with the number itself the list of all numbers below it would be computed.
abbrev pub invariant-loop-number : goal.invariant-loop-number
invariant-loop-number l =
    ((most : ℕ) → most ≡ 1048576 → l.numbers.items ++ numbers_from most l.start (is_found l.search) ≡ numbers_where most (is_found l.search)) × (length l.numbers.items ≤ 128)

abbrev pub decreases-loop-number : goal.decreases-loop-number
decreases-loop-number l = 1048576 - l.start
