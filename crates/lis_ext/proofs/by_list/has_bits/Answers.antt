use Rattle.std.proofs.Common.{length, get_or, refl, ap, ◌∙◌, sym, arith}
use Rattle.lis_bits.proofs.Numbers.{bytes_are, byte-bits_bytes}
use Rattle.lis_ext.specs.Inside.{has_in}
use Rattle.lis_ext.proofs.by_list.has_bits.Goals as goal

pub returns-then-byte-byte_at : goal.returns-then-byte-byte_at
returns-then-byte-byte_at c =
    let bytes = c.args.bytes.now in
    let k = c.loop-k.k in
    (λ no. absurd cc, λ is. absurd (c.if-byte-byte_at.true (ap (λ xs. get_or xs k 0) is ∙ (byte-bits_bytes (length bytes) (has_in c.args.lists.now c.args.prop) k c.loop-k-test.true ∙ sym c.byte_at.ensures))))

pub returns : goal.returns
returns c =
    let bytes = c.args.bytes.now in
    (λ yes. bytes_are bytes (length bytes) (has_in c.args.lists.now c.args.prop) refl (λ j lt. c.loop-k.invariant j (omega arith)), λ is. refl)
