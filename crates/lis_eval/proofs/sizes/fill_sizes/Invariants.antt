use Rattle.std.proofs.Common.{nat_le, take}
use Rattle.lis_bits.specs.Rows.{SetsBits}
use Rattle.lis_model.specs.Table.{Entry}
use Rattle.lis_eval.specs.View.{slot_passes}
use Rattle.lis_eval.proofs.sizes.fill_sizes.Given as goal

abbrev pub invariant-loop-k : goal.invariant-loop-k
invariant-loop-k g l = SetsBits l.fn.rows l.rows 65 l.files l.row (slot_passes (take l.k (g.V.View.seen l.view).files) (λ (e : Entry). nat_le l.least e.size))
