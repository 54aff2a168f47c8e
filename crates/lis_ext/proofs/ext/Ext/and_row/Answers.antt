use Rattle.std.proofs.Common.{◌&&◌, length, refl, ap, ◌∙◌, arith}
use Rattle.lis_bits.specs.Rows.{get}
use Rattle.lis_bits.proofs.Laws.{with_row_same, row_sets}
use Rattle.lis_ext.specs.Inside.{has_in}
use Rattle.lis_ext.proofs.ext.Ext.and_row.Goals as goal

pub and_row-requires-clause-bits : goal.and_row-requires-clause-bits
and_row-requires-clause-bits c =
    let bits = rw (← c.self.view_is) at c.requires.bits in
    omega (arith, bits, c.self.invariant.rows_shape.wide, c.self.invariant.long)

pub returns-then-prop-self : goal.returns-then-prop-self
returns-then-prop-self c =
    let e = c.self.inside in
    let prop = c.args.prop in
    let to = c.args.to.now in
    let row = c.args.row in
    let bits = rw (← c.self.view_is) at c.requires.bits in
    let same = with_row_same to row (λ bit. get to row bit && get e.rows prop bit) (λ bit. get to row bit && has_in e.lists prop bit)
    (λ i lt. ap (λ b. get to row i && b) (c.self.invariant.in_step prop i c.if-prop-self.true (omega (arith, bits, c.self.invariant.long)))) in
    rw (← c.self.view_is) (row_sets to c.and_row.new.to (length to.rows) to.bits row (λ bit. get to row bit && has_in e.lists prop bit) (record { tall = refl; wide = refl }) c.requires.row (c.and_row.ensures ∙ same))

pub returns : goal.returns
returns c = rw (← c.self.view_is) c.and_row-2.ensures
