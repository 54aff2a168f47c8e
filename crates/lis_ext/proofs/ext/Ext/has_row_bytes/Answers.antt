use Rattle.std.proofs.Common.{length, sym, ◌∙◌, arith}
use Rattle.lis_bits.specs.Rows.{get}
use Rattle.lis_bits.proofs.Numbers.{bytes_same}
use Rattle.lis_ext.specs.Inside.{has_in}
use Rattle.lis_ext.proofs.ext.Ext.has_row_bytes.Goals as goal

pub returns-then-prop-self : goal.returns-then-prop-self
returns-then-prop-self c =
    let e = c.self.inside in
    let prop = c.args.prop in
    let room = rw (← c.self.view_is) at c.requires.room in
    let same = bytes_same (length c.args.bytes.now) (get e.rows prop) (has_in e.lists prop) (λ i lt. c.self.invariant.in_step prop i c.if-prop-self.true (omega (arith, room, c.self.invariant.long))) in
    rw (← c.self.view_is) (λ yes. c.has_bytes.ensures.0 yes ∙ same, λ is. c.has_bytes.ensures.1 (is ∙ sym same))

pub returns : goal.returns
returns c = rw (← c.self.view_is) c.has_bits.ensures
