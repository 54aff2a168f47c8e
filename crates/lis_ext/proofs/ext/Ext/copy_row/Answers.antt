use Rattle.std.proofs.Common.{length, refl, ◌∙◌, arith}
use Rattle.lis_bits.specs.Rows.{get}
use Rattle.lis_bits.proofs.Laws.{with_row_same, row_sets}
use Rattle.lis_ext.specs.Inside.{has_in}
use Rattle.lis_ext.proofs.ext.Ext.copy_row.Goals as goal

pub copy_row-requires-clause-bits : goal.copy_row-requires-clause-bits
copy_row-requires-clause-bits c =
    let bits = rw (← c.self.view_is) at c.requires.bits in
    omega (arith, bits, c.self.invariant.rows_shape.wide, c.self.invariant.long)

pub returns-then-prop-self : goal.returns-then-prop-self
returns-then-prop-self c =
    let e = c.self.inside in
    let prop = c.args.prop in
    let to = c.args.to.now in
    let row = c.args.row in
    let bits = rw (← c.self.view_is) at c.requires.bits in
    let same = with_row_same to row (get e.rows prop) (has_in e.lists prop) (λ i lt. c.self.invariant.in_step prop i c.if-prop-self.true (omega (arith, bits, c.self.invariant.long))) in
    rw (← c.self.view_is) (row_sets to c.copy_row.new.to (length to.rows) to.bits row (has_in e.lists prop) (record { tall = refl; wide = refl }) c.requires.row (c.copy_row.ensures ∙ same))

pub returns : goal.returns
returns c = rw (← c.self.view_is) c.copy_row-2.ensures
