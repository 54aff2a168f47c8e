use Rattle.std.proofs.Common.{◌≡◌, ◌==◌, if◌then◌else◌, true, sym, ◌∙◌, arith}
use Rattle.lis_bits.specs.Rows.{get}
use Rattle.lis_bits.proofs.Laws.{bits_set}
use Rattle.lis_eval.specs.View.{table_of}
use Rattle.lis_eval.proofs.Slots.{bits_same, set_passes}
use Rattle.lis_incr.specs.Marked.{is_top}
use Rattle.lis_incr.proofs.increments.mark_increment.Goals as goal

pub returns-then-is_top-clause-marked : goal.returns-then-is_top-clause-marked
returns-then-is_top-clause-marked g c = λ test w are there same.
    let v = g.V.View.seen c.args.view.now in
    let old = c.args.increments.now in
    let number = c.args.number in
    let top : is_top (table_of v) test w.0 ≡ true = sym (c.is_top.ensures test w are there same) ∙ c.if-is_top.true in
    rw c.put.ensures (bits_same old _ 1 v.limits.props 0 _ _ (bits_set old 1 v.limits.props 0 (λ k. if k == number then true else get old 0 k) c.requires.increments (omega arith))
    (λ n lt. set_passes (get old 0 n) (is_top (table_of v) test w.0) n number w.1 (sym same) top))
