use Rattle.lis_open.proofs.Common.{◌≡◌, drop, are_distinct}
use Rattle.lis_open.proofs.indexes.are_distinct.Given as goal

abbrev pub invariant-loop-k : goal.invariant-loop-k
invariant-loop-k l = are_distinct (drop l.k l.numbers) ≡ are_distinct l.numbers
