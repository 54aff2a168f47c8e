use Rattle.std.proofs.Common.{false, length, ap, arith}
use Rattle.lis_bits.proofs.OneRow.{flags_alike, bit_past}
use Rattle.lis_bits.proofs.flags.Flags.new.Goals as goal

pub returns : goal.returns
returns c =
    let words = c.in_ok-with_capacity.field-0.items in
    flags_alike c.args.bits words false (λ k lt. bit_past words k (omega (arith, ap length c.in_ok-with_capacity.ensures.items)))
