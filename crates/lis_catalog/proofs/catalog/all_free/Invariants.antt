use Rattle.std.proofs.Common.{◌≡◌, None, replicate}
use Rattle.lis_catalog.proofs.catalog.all_free.Given as goal

abbrev pub invariant-loop : goal.invariant-loop
invariant-loop l = l.records.items ≡ replicate l.counter None
