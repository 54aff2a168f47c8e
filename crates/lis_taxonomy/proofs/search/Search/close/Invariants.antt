use Rattle.std.proofs.Common.{◌-◌}
use Rattle.lis_limits.specs.declared.TheConstants.{V3_MAX_PROPS}
use Rattle.lis_taxonomy.specs.Steps.{SearchesTo}
use Rattle.lis_taxonomy.proofs.search.Search.close.Given as goal

abbrev pub invariant-loop-done : goal.invariant-loop-done
invariant-loop-done l = SearchesTo l.edges l.fn.self l.self l.done

abbrev pub decreases-loop-done : goal.decreases-loop-done
decreases-loop-done l = V3_MAX_PROPS - l.done
