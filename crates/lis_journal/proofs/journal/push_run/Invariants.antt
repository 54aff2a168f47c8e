use Rattle.std.proofs.Common.{◌≡◌, ◌≤◌, ◌+◌, ◌++◌, length, vec_capacity}
use Rattle.std.specs.List.{range_with_len}
use Rattle.lis_journal.proofs.journal.push_run.Given as goal

abbrev pub invariant-loop-k : goal.invariant-loop-k
invariant-loop-k l = record {
  items : l.placed.items ≡ l.fn.placed.items ++ range_with_len l.first l.k;
  len : length l.placed.items ≡ length l.fn.placed.items + l.k;
  capacity : vec_capacity l.fn.placed ≤ vec_capacity l.placed;
}
