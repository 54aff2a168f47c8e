use Rattle.std.proofs.Common.{take}
use Rattle.lis_ext.specs.Inside.{PutsBits, has_alone}
use Rattle.lis_ext.proofs.tables.put_bits.Given as goal

abbrev pub invariant-loop-number : goal.invariant-loop-number
invariant-loop-number l = PutsBits l.fn.rows l.rows l.props l.files l.file (has_alone (take l.number-index l.numbers) l.others) l.value
