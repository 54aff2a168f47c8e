use Rattle.std.proofs.Common.{◌/◌, ◌%◌, length, ap, ◌∙◌, arith}
use Rattle.lis_bits.specs.Words.{word_bit}
use Rattle.lis_bits.proofs.Bits.{ones_bit}
use Rattle.lis_bits.proofs.OneRow.{flags_many, flags_alike, bit_past}
use Rattle.lis_bits.proofs.flags.Flags.fill.Goals as goal
use Rattle.lis_bits.proofs.flags.Flags.fill.Goals.{then-value, else-value}

pub returns : goal.returns
returns c =
    let fields = c.self.inside in
    let words = c.extend.new.words.items in
    let none = ap length c.clear.ensures.items in
    let long = c.extend.ensures.long in
    let many = flags_many fields.bits fields.words.items c.args.self.now c.self.view_is in
    let whole = c.self.invariant.whole_words in
    rw many (flags_alike fields.bits words c.args.value (λ k lt. elim c.if-value.branch [
      | then-value w ↦ rw w.if-value.true (ap (λ word. word_bit word (k % 64)) (c.extend.ensures.added (k / 64) (omega arith) (omega arith)) ∙ ones_bit (k % 64) (omega arith))
      | else-value w ↦ rw w.if-value.false (bit_past words k (omega arith))
    ]))
