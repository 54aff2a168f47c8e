use Rattle.std.proofs.Common.{length, ◌∙◌, arith}
use Rattle.lis_bits.specs.Rows.{get}
use Rattle.lis_bits.proofs.Numbers.{bytes_same}
use Rattle.lis_ext.specs.Inside.{has_in}
use Rattle.lis_ext.proofs.ext.Ext.row_bytes.Goals as goal

pub returns-then-prop-self : goal.returns-then-prop-self
returns-then-prop-self c =
    let e = c.self.inside in
    let prop = c.args.prop in
    let room = rw (← c.self.view_is) at c.requires.room in
    rw (← c.self.view_is) (c.row_bytes.ensures ∙ bytes_same (length c.args.buf.now) (get e.rows prop) (has_in e.lists prop) (λ i lt. c.self.invariant.in_step prop i c.if-prop-self.true (omega (arith, room, c.self.invariant.long))))

pub returns : goal.returns
returns c = rw (← c.self.view_is) c.write_bits.ensures
