use Rattle.std.proofs.Common.{take}
use Rattle.lis_ext.specs.Inside.{CountsUp, Touches, has_alone}
use Rattle.lis_ext.proofs.tables.lose.Given as goal

abbrev pub invariant-loop-number : goal.invariant-loop-number
invariant-loop-number l = record {
  counts : CountsUp l.counts l.fn.counts l.props (has_alone (take l.number-index l.numbers) l.others);
  marks : Touches l.fn.marks l.marks l.props (has_alone (take l.number-index l.numbers) l.others);
}
