use Rattle.std.proofs.Common.{length, sym, ◌∙◌, arith}
use Rattle.lis_bits.specs.Rows.{get}
use Rattle.lis_bits.specs.Words.{words_bit}
use Rattle.lis_bits.proofs.Numbers.{bytes_same}
use Rattle.lis_bits.proofs.rows.Rows.has_bytes.Goals as goal

pub returns : goal.returns
returns c =
    let same = bytes_same (length c.args.bytes.now) (words_bit c.words.result.now) (get c.args.self.now c.args.row) (λ i lt. sym (c.words.ensures.words i (omega (arith, c.requires.room)))) in
    (λ yes. c.are_bytes.ensures.0 yes ∙ same, λ is. c.are_bytes.ensures.1 (is ∙ sym same))
