use Rattle.std.proofs.Common.{length, refl, ◌∙◌, sym, arith}
use Rattle.lis_bits.specs.Words.{words_bit}
use Rattle.lis_bits.proofs.Numbers.{bytes_are}
use Rattle.lis_bits.proofs.Loads.{one_more, its_own}
use Rattle.lis_bits.proofs.words.are_bytes.Goals as goal

pub loop-k-preserved : goal.loop-k-preserved
loop-k-preserved c = one_more c.args.words.now c.args.bytes.now c.loop-k.k c.loop-k.invariant (c.is_word.ensures.0 c.if-not-is_word.false)

pub returns-then-not-is_word : goal.returns-then-not-is_word
returns-then-not-is_word c =
    let lt = c.loop-k-test.true in
    (λ no. absurd cc, λ is. sym c.if-not-is_word.true ∙ c.is_word.ensures.1 (its_own c.args.words.now c.args.bytes.now c.loop-k.k is (omega (arith, lt, c.requires))))

pub returns : goal.returns
returns c =
    let bytes = c.args.bytes.now in
    (λ yes. bytes_are bytes (length bytes) (words_bit c.args.words.now) refl (λ j lt. c.loop-k.invariant j (omega arith)), λ is. refl)
