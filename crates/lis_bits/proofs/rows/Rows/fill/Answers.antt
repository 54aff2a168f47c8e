use Rattle.std.proofs.Common.{◌≡◌, rules}
use Rattle.lis_bits.proofs.Bits.{ones_bit, zero_bit}
use Rattle.lis_bits.proofs.rows.Rows.fill.Goals as goal
use Rattle.lis_bits.proofs.rows.Rows.fill.Goals.{then-value, else-value}

pub returns : goal.returns
returns c = c.join.ensures (λ _ _. c.args.value) (λ a b word a_fits b_fits is bit lt.
    let given : word ≡ c.if-value.word = search rules in
    elim c.if-value.branch [
      | then-value w ↦ rw (given, w.word-is, w.if-value.true) (ones_bit bit lt)
      | else-value w ↦ rw (given, w.word-is, w.if-value.false) (zero_bit bit)
    ])
