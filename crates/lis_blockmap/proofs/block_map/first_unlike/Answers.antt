use Rattle.std.proofs.Common.{◌≡◌, Bool, true, false, not, sym, ◌∙◌, arith}
use Rattle.std.specs.Bool.{beq}
use Rattle.lis_blockmap.proofs.Bytes.{same_from_bits}
use Rattle.lis_blockmap.proofs.block_map.first_unlike.Goals as goal

pub returns-then-has_bit-clause-here : goal.returns-then-has_bit-clause-here
returns-then-has_bit-clause-here c = λ same. not_same c.has_bit.result c.has_bit-in-loop-bit.result c.if-has_bit.true (c.has_bit.ensures ∙ (same ∙ sym c.has_bit-in-loop-bit.ensures))
  where
    not_same : (a b : Bool) → not (beq a b) ≡ true → a ≡ b → ⊥
    not_same true true e same = absurd cc
    not_same false false e same = absurd cc
    not_same true false e same = absurd cc
    not_same false true e same = absurd cc

pub returns-clause-same : goal.returns-clause-same
returns-clause-same c =
    same_from_bits c.args.a.now c.args.b.now c.requires.first c.requires.second (λ k. (c.type_inv.a k).fits) (λ k. (c.type_inv.b k).fits)
    (λ bit lt. c.loop-bit.invariant bit (omega (arith, lt, c.loop-bit-test.false)))
