use Rattle.std.proofs.Common.{◌≡◌, ◌+◌, ◌-◌, ◌*◌, ◌≤◌, refl, ap, ◌∙◌, arith}
use Rattle.lis_bits.specs.Bytes.{bits_number}
use Rattle.lis_ext.specs.Numbers.{has_number}
use Rattle.lis_ext.specs.Inside.{has_in}
use Rattle.lis_ext.proofs.ByList.{number_more, bit_small, byte_fits}
use Rattle.lis_ext.proofs.by_list.byte_at.Goals as goal

pub loop-done-init : goal.loop-done-init
unfolding bits_number
loop-done-init c = refl

pub overflow_mul-byte : goal.overflow_mul-byte
overflow_mul-byte c =
    let l = c.loop-done in
    omega (arith, byte_fits l.done l.byte (λ i. has_in c.args.lists.now c.args.prop (8 * c.args.k + 8 - l.done + i)) c.loop-done-test.true l.invariant)

pub overflow_add-byte : goal.overflow_add-byte
overflow_add-byte c =
    let l = c.loop-done in
    let bit : c.from.result ≤ 1 = rw c.from.ensures (bit_small c.is_among-is_had.result) in
    omega (arith, byte_fits l.done l.byte (λ i. has_in c.args.lists.now c.args.prop (8 * c.args.k + 8 - l.done + i)) c.loop-done-test.true l.invariant, bit)

pub loop-done-preserved : goal.loop-done-preserved
loop-done-preserved c =
    let l = c.loop-done in
    let k = c.args.k in
    let has = has_in c.args.lists.now c.args.prop in
    let lt = c.loop-done-test.true in
    let here : 8 * k + 7 - l.done ≡ 8 * k + 8 - (l.done + 1) + 0 = omega (arith, lt) in
    ap (λ bit. 2 * l.byte + bit) c.from.ensures
    ∙ number_more l.done l.byte (λ i. has (8 * k + 8 - l.done + i)) (λ i. has (8 * k + 8 - (l.done + 1) + i)) c.is_among-is_had.result l.invariant
    (c.is_among-is_had.ensures ∙ (ap (λ numbers. has_number numbers c.args.prop) c.numbers.ensures.numbers ∙ ap has here))
    (λ i low. let same : 8 * k + 8 - (l.done + 1) + (i + 1) ≡ 8 * k + 8 - l.done + i = omega (arith, lt) in ap has same)
