use Rattle.std.proofs.Common.{length, sym, ◌∙◌, arith}
use Rattle.lis_bits.specs.Rows.{get}
use Rattle.lis_bits.specs.Words.{words_bit}
use Rattle.lis_bits.proofs.Numbers.{bytes_same}
use Rattle.lis_bits.proofs.rows.Rows.row_bytes.Goals as goal

pub returns : goal.returns
returns c =
    c.write_bytes.ensures
    ∙ bytes_same (length c.args.buf.now) (words_bit c.words.result.now) (get c.args.self.now c.args.row) (λ i lt. sym (c.words.ensures.words i (omega (arith, c.requires.room))))
