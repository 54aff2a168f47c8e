use Rattle.lis_journal.specs.Staging.{HasNone}
use Rattle.lis_journal.proofs.records.has_any.Given as goal

abbrev pub invariant-loop-k : goal.invariant-loop-k
invariant-loop-k l = HasNone l.latest.entries l.first l.k
