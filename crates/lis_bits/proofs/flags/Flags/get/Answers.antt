use Rattle.std.proofs.Common.{◌≡◌, ◌/◌, ◌%◌, get_or, sym, ap, ◌∙◌, arith}
use Rattle.std.proofs.lemmas.Bool.{le-ltb}
use Rattle.std.proofs.lemmas.Grind.{get_or_default_zero}
use Rattle.std.proofs.lemmas.Nat.Bits.{shr_and_one}
use Rattle.lis_bits.specs.Words.{word_bit}
use Rattle.lis_bits.proofs.OneRow.{flag_at, bit_past}
use Rattle.lis_bits.proofs.flags.Flags.get.Goals as goal

pub returns-then-place-len : goal.returns-then-place-len
returns-then-place-len c =
    let words = c.self.inside.words.items in
    let number = c.args.number in
    let word : c.index.result.now ≡ get_or words (number / 64) 0 = c.index.ensures ∙ get_or_default_zero words (number / 64) c.index.result.now (omega arith) in
    rw shr_and_one (ap (λ w. word_bit w (number % 64)) word ∙ sym (flag_at c.self.inside.bits words c.args.self.now c.self.view_is number c.requires))

pub returns-else-place-len : goal.returns-else-place-len
returns-else-place-len c =
    let words = c.self.inside.words.items in
    let number = c.args.number in
    rw (le-ltb (number / 64) c.len.result c.if-place-len.false) (sym (flag_at c.self.inside.bits words c.args.self.now c.self.view_is number c.requires ∙ bit_past words number (omega arith)))
