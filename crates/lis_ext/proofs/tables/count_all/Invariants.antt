use Rattle.std.proofs.Common.{length, take}
use Rattle.lis_ext.specs.Numbers.{has_number}
use Rattle.lis_ext.specs.Inside.{CountsUp}
use Rattle.lis_ext.proofs.tables.count_all.Given as goal

abbrev pub invariant-loop-number : goal.invariant-loop-number
invariant-loop-number l = CountsUp l.fn.counts l.counts (length l.fn.counts) (has_number (take l.number-index l.numbers))
