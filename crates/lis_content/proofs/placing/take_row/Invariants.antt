use Rattle.std.proofs.Common.{◌-◌, ◌≤◌, ◌<◌}
use Rattle.lis_content.specs.Placing.{TakesRow}
use Rattle.lis_content.proofs.placing.take_row.Given as goal

abbrev pub invariant-loop-count : goal.invariant-loop-count
invariant-loop-count l = record {
  row : TakesRow l.fn.map l.map l.first l.count;
  any : 0 < l.count;
  most : l.count ≤ l.limit;
}

abbrev pub decreases-loop-count : goal.decreases-loop-count
decreases-loop-count l = l.limit - l.count
