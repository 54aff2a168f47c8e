use Rattle.std.proofs.Common.{◌&&◌}
use Rattle.lis_bits.specs.Rows.{get}
use Rattle.lis_ext.specs.Inside.{has_in}
use Rattle.lis_ext.proofs.ByList.{SetsFirst}
use Rattle.lis_ext.proofs.by_list.and_row.Given as goal

abbrev pub invariant-loop-file : goal.invariant-loop-file
invariant-loop-file l = SetsFirst l.fn.to l.to l.row l.file (λ bit. get l.fn.to l.row bit && has_in l.lists l.prop bit)
