use Rattle.std.proofs.Common.{◌+◌, ◌*◌, sym, ◌∙◌, arith}
use Rattle.lis_bits.specs.Rows.{get}
use Rattle.lis_bits.specs.Words.{words_bit}
use Rattle.lis_bits.proofs.Numbers.{number_same}
use Rattle.lis_bits.proofs.rows.Rows.byte.Goals as goal

pub returns : goal.returns
returns c =
    let k = c.args.k in
    c.byte.ensures ∙ number_same 8 (λ i. words_bit c.words.result.now (8 * k + i)) (λ i. get c.args.self.now c.args.row (8 * k + i)) (λ i lt. sym (c.words.ensures.words (8 * k + i) (omega (arith, c.words.ensures.bits, c.requires.bits))))
