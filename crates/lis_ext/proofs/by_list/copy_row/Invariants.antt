use Rattle.lis_ext.specs.Inside.{has_in}
use Rattle.lis_ext.proofs.ByList.{SetsFirst}
use Rattle.lis_ext.proofs.by_list.copy_row.Given as goal

abbrev pub invariant-loop-file : goal.invariant-loop-file
invariant-loop-file l = SetsFirst l.fn.to l.to l.row l.file (has_in l.lists l.prop)
