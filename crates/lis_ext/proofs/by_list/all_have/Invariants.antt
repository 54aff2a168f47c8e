use Rattle.std.proofs.Common.{ℕ, ◌<◌, IsTrue}
use Rattle.lis_bits.specs.Rows.{get}
use Rattle.lis_ext.specs.Inside.{has_in}
use Rattle.lis_ext.proofs.by_list.all_have.Given as goal

abbrev pub invariant-loop-file : goal.invariant-loop-file
invariant-loop-file l = (i : ℕ) → i < l.file → IsTrue (get l.found 0 i) → IsTrue (has_in l.lists l.prop i)
