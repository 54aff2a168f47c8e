use Rattle.std.proofs.Common.{arith, get_or}
use Rattle.lis_kept.proofs.Common.{◌≡◌, ◌+◌, ◌/◌, Bool, List, ◌∙◌, sym, ap, subst, drop, set, true, marked}
use Rattle.lis_kept.specs.Changes.{bitmap_homes}
use Rattle.lis_kept.proofs.InArea.{few_ahead}
use Rattle.lis_kept.proofs.BitmapMarks.{marks_one, marks_none, as_many}
use Rattle.lis_kept.proofs.changes.blocks.mark_bits.Goals.{then-n-limits, else-n-limits}
use Rattle.lis_kept.proofs.changes.blocks.mark_bits.Goals as goal

pub overflow_add-first : goal.overflow_add-first
overflow_add-first c = omega (arith, c.bitmap_start-first.ensures, c.if-n-limits.true, few_ahead c.args.limits.now c.requires.range)

pub put-requires : goal.put-requires
put-requires c =
    let limits = c.args.limits.now in
    let blocks = c.args.blocks.now in
    let len = as_many c.loop-n.marks c.args.marks.now (bitmap_homes limits (drop c.loop-n.n-index blocks)) (bitmap_homes limits blocks) c.loop-n.invariant in
    omega (arith, len, c.bitmap_start-first.ensures, c.requires.long, c.if-n-limits.true)

pub loop-n-preserved : goal.loop-n-preserved
loop-n-preserved c =
    let limits = c.args.limits.now in
    let blocks = c.args.blocks.now in
    let i = c.loop-n.n-index in
    let n = get_or blocks i 0 in
    let marks = c.loop-n.marks in
    let P : List Bool → Type 0 = λ m. marked m (bitmap_homes limits (drop (i + 1) blocks)) ≡ marked c.args.marks.now (bitmap_homes limits blocks) in
    elim c.if-n-limits.branch [
      | then-n-limits w ↦
          subst P (sym (w.marks-is ∙ (w.put.ensures ∙ ap (λ first. set marks (first + n / 32768) true) c.bitmap_start-first.ensures)))
          (marks_one limits marks blocks i c.loop-n-test.true w.if-n-limits.true ∙ c.loop-n.invariant)
      | else-n-limits w ↦ subst P (sym w.marks-is) (marks_none limits marks blocks i c.loop-n-test.true w.if-n-limits.false ∙ c.loop-n.invariant)
    ]
