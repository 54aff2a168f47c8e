use Rattle.std.proofs.Common.{◌-◌}
use Rattle.lis_limits.specs.declared.TheConstants.{V3_MAX_PROPS}
use Rattle.lis_taxonomy.specs.Steps.{LeadsTo}
use Rattle.lis_taxonomy.proofs.search.Search.leads.Given as goal

abbrev pub invariant-loop-done : goal.invariant-loop-done
invariant-loop-done l = LeadsTo l.edges l.marks l.number l.self l.done

abbrev pub decreases-loop-done : goal.decreases-loop-done
decreases-loop-done l = V3_MAX_PROPS - l.done
