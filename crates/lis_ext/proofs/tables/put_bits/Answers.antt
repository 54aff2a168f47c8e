use Rattle.std.proofs.Common.{◌+◌, get_or, take, sym, ◌∙◌, arith}
use Rattle.lis_ext.specs.Inside.{has_alone}
use Rattle.lis_ext.proofs.Touched.{more_alone, same_alone}
use Rattle.lis_ext.proofs.Bits.{puts_none, puts_more, puts_same}
use Rattle.lis_ext.proofs.tables.put_bits.Goals.{then-not-is_among, else-not-is_among}
use Rattle.lis_ext.proofs.tables.put_bits.Goals as goal

pub loop-number-init : goal.loop-number-init
loop-number-init c = puts_none c.args.rows.now c.args.props c.args.files c.args.file c.args.value c.args.others.now c.requires.shape

pub put-requires-clause-row : goal.put-requires-clause-row
put-requires-clause-row c =
    let q_in = c.requires.in_props c.loop-number.number-index 0 c.loop-number-test.true in
    omega (arith, q_in, c.loop-number.invariant.shape.tall)

pub put-requires-clause-bit : goal.put-requires-clause-bit
put-requires-clause-bit c = omega (arith, c.requires.file, c.loop-number.invariant.shape.wide)

pub loop-number-preserved : goal.loop-number-preserved
loop-number-preserved c =
    let l = c.loop-number in
    let a = c.args in
    let numbers = a.numbers.now in
    let others = a.others.now in
    let k = l.number-index in
    let q = get_or numbers k 0 in
    let lt = c.loop-number-test.true in
    let q_in = c.requires.in_props k 0 lt in
    elim c.if-not-is_among.branch [
      | then-not-is_among w ↦
          let more = more_alone numbers others k c.requires.rise lt (sym c.is_among.ensures ∙ w.if-not-is_among.true) in
          rw (w.rows-is, w.put.ensures) (puts_more a.rows.now a.props a.files a.file a.value (has_alone (take k numbers) others) (has_alone (take (k + 1) numbers) others) l.rows l.invariant q q_in more)
      | else-not-is_among w ↦
          let same = same_alone numbers others k lt (sym c.is_among.ensures ∙ w.if-not-is_among.false) in
          rw (w.rows-is) (puts_same a.rows.now a.props a.files a.file a.value (has_alone (take k numbers) others) (has_alone (take (k + 1) numbers) others) l.rows l.invariant same)
    ]
