use Rattle.std.proofs.Common.{◌≡◌, false, take}
use Rattle.std.specs.List.{list_any}
use Rattle.lis_bits.specs.Rows.{get}
use Rattle.lis_incr.proofs.marks.has_marked.Given as goal

abbrev pub invariant-loop-number : goal.invariant-loop-number
invariant-loop-number l = list_any (get l.marks 0) (take l.number-index l.numbers) ≡ false
