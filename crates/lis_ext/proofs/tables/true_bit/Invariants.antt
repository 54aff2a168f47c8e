use Rattle.std.proofs.Common.{◌≡◌, ℕ, ◌+◌}
use Rattle.std.specs.List.{slice_get}
use Rattle.lis_bits.specs.Rows.{get}
use Rattle.lis_ext.specs.Numbers.{numbers_where}
use Rattle.lis_ext.proofs.Numbers.{numbers_from}
use Rattle.lis_ext.proofs.tables.true_bit.Given as goal

abbrev pub invariant-loop : goal.invariant-loop
invariant-loop l = (j : ℕ) → slice_get (numbers_where l.props (get l.marks 0)) (l.counter + j) ≡ slice_get (numbers_from l.props l.start (get l.marks 0)) j
