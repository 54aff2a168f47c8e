use Rattle.std.proofs.Common.{◌+◌, get_or, take, sym, ◌∙◌, arith}
use Rattle.lis_ext.specs.Inside.{has_alone}
use Rattle.lis_ext.proofs.Touched.{has_it, more_alone, same_alone, same_before, counts_down, counts_same, touch_more, touch_same}
use Rattle.lis_ext.proofs.tables.lose.Goals.{then-not-is_among, else-not-is_among}
use Rattle.lis_ext.proofs.tables.lose.Goals as goal

pub overflow_sub-counts : goal.overflow_sub-counts
overflow_sub-counts c =
    let l = c.loop-number in
    let numbers = c.args.numbers.now in
    let others = c.args.others.now in
    let k = l.number-index in
    let q = get_or numbers k 0 in
    let lt = c.loop-number-test.true in
    let q_in = c.requires.in_props k 0 lt in
    let more = more_alone numbers others k c.requires.rise lt (sym c.is_among.ensures ∙ c.if-not-is_among.true) in
    let same = same_before (has_alone (take k numbers) others) (has_alone (take (k + 1) numbers) others) q c.args.props q_in more l.counts c.args.counts.now l.invariant.counts in
    let fit = c.requires.counted q (has_it numbers k lt) in
    omega arith

pub loop-number-preserved : goal.loop-number-preserved
loop-number-preserved c =
    let l = c.loop-number in
    let a = c.args in
    let props = a.props in
    let numbers = a.numbers.now in
    let others = a.others.now in
    let k = l.number-index in
    let q = get_or numbers k 0 in
    let lt = c.loop-number-test.true in
    let q_in = c.requires.in_props k 0 lt in
    elim c.if-not-is_among.branch [
      | then-not-is_among w ↦
          let more = more_alone numbers others k c.requires.rise lt (sym c.is_among.ensures ∙ w.if-not-is_among.true) in
          let same = same_before (has_alone (take k numbers) others) (has_alone (take (k + 1) numbers) others) q props q_in more l.counts c.args.counts.now l.invariant.counts in
          let fit = c.requires.counted q (has_it numbers k lt) in
          rw (w.counts-is, w.marks-is, w.put.ensures) (record {
            counts = counts_down (has_alone (take k numbers) others) (has_alone (take (k + 1) numbers) others) q props q_in more l.counts a.counts.now l.invariant.counts (omega (arith, l.auto.counts)) (omega (arith, same, fit));
            marks = touch_more (has_alone (take k numbers) others) (has_alone (take (k + 1) numbers) others) q props q_in more a.marks.now l.marks l.invariant.marks;
          })
      | else-not-is_among w ↦
          let same = same_alone numbers others k lt (sym c.is_among.ensures ∙ w.if-not-is_among.false) in
          rw (w.counts-is, w.marks-is) (record {
            counts = counts_same (has_alone (take k numbers) others) (has_alone (take (k + 1) numbers) others) props same l.counts a.counts.now l.invariant.counts;
            marks = touch_same (has_alone (take k numbers) others) (has_alone (take (k + 1) numbers) others) props same a.marks.now l.marks l.invariant.marks;
          })
    ]
