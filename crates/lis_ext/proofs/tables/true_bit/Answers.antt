use Rattle.std.proofs.Common.{◌≡◌, suc, ◌+◌, ◌-◌, sym, ap, ◌∙◌, arith}
use Rattle.std.specs.List.{slice_get}
use Rattle.lis_bits.specs.Rows.{get}
use Rattle.lis_ext.proofs.Numbers.{from_start, none_from, next_from, next_is}
use Rattle.lis_ext.proofs.tables.true_bit.Goals as goal

pub loop-init : goal.loop-init
loop-init c = λ j. let same : 0 + j ≡ j = omega arith in rw same (ap (λ xs. slice_get xs j) (from_start c.args.props (get c.args.marks.now 0)))

pub returns-in_err-start : goal.returns-in_err-start
returns-in_err-start c =
    let test = get c.args.marks.now 0 in
    let none = rw c.requires.wide at c.in_err-start.ensures.none in
    let place : c.loop.counter + (c.args.k - c.loop.counter) ≡ c.args.k = omega arith in
    rw c.from_residual.ensures (sym (rw (place, none_from c.args.props c.loop.start test none) at (c.loop.invariant (c.args.k - c.loop.counter))))

pub loop-preserved : goal.loop-preserved
loop-preserved c = λ j.
    let props = c.args.props in
    let test = get c.args.marks.now 0 in
    let found = c.in_ok-start.ensures in
    let place : c.loop.counter + 1 + j ≡ c.loop.counter + suc j = omega arith in
    let next = next_from props c.loop.start c.in_ok-start.field-0 test found.from_start (omega (arith, found.in_row, c.requires.wide)) found.least found.true_bit in
    rw place (c.loop.invariant (suc j) ∙ ap (λ xs. slice_get xs (suc j)) next)

pub returns : goal.returns
returns c =
    let props = c.args.props in
    let marks = c.args.marks.now in
    let found = c.next-2.ensures in
    let place : c.loop.counter + 0 ≡ c.args.k = omega arith in
    next_is marks props c.loop.start c.next-2.result c.requires.wide found.true_bit found.in_row found.from_start found.least found.none ∙ sym (rw place at (c.loop.invariant 0))
