use Rattle.lis_table.proofs.Closing.{Closing, open_count}
use Rattle.lis_table.proofs.closure.all_up.Given as goal

abbrev pub invariant-loop-pair : goal.invariant-loop-pair
invariant-loop-pair l = Closing l.declared l.axioms l.words l.all.items

abbrev pub decreases-loop-pair : goal.decreases-loop-pair
decreases-loop-pair l = open_count l.axioms l.all.items
