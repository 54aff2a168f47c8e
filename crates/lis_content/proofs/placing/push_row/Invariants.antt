use Rattle.std.proofs.Common.{◌≡◌, ◌+◌, ◌++◌, length}
use Rattle.std.specs.List.{range_with_len}
use Rattle.lis_content.proofs.placing.push_row.Given as goal

abbrev pub invariant-loop-k : goal.invariant-loop-k
invariant-loop-k l = record {
  items : l.taken.items ≡ l.fn.taken.items ++ range_with_len l.row.first l.k;
  len : length l.taken.items ≡ length l.fn.taken.items + l.k;
}
