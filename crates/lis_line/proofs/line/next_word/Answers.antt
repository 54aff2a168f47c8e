use Rattle.std.proofs.Common.{◌<◌, ◌∷◌, length, drop, ◌∙◌, ap, sym, arith}
use Rattle.std.proofs.lemmas.Bool.{eqb-true, eqb-false}
use Rattle.lis_model.specs.Script.{words_of}
use Rattle.lis_line.proofs.Words.{no_words, one_word, word_within, some_word}
use Rattle.lis_line.proofs.line.next_word.Goals as goal

pub returns-then-is_empty-clause-words : goal.returns-then-is_empty-clause-words
returns-then-is_empty-clause-words c =
    no_words c.args.text.now (ap length (sym c.after_blanks-text.ensures.text) ∙ eqb-true (length c.after_blanks-text.result.now) 0 (sym c.if-is_empty.ensures))

pub split_at-requires : goal.split_at-requires
split_at-requires c = word_within c.after_blanks-text.result.now c.word_len.result c.word_len.ensures

pub returns-clause-words : goal.returns-clause-words
returns-clause-words c =
    let rest = c.after_blanks-text.result.now in
    let other = eqb-false (length rest) 0 (sym c.if-is_empty.ensures) in
    let some : 0 < length rest = omega (arith, other) in
    one_word c.args.text.now rest c.word_len.result c.after_blanks-text.ensures.text some c.word_len.ensures
    ∙ ap (λ word. word ∷ words_of (drop c.word_len.result rest)) (sym c.split_at.ensures.front)
    ∙ ap (λ more. c.split_at.result.0.now ∷ words_of more) (sym c.split_at.ensures.back)

pub returns-clause-some : goal.returns-clause-some
returns-clause-some c =
    let rest = c.after_blanks-text.result.now in
    let other = eqb-false (length rest) 0 (sym c.if-is_empty.ensures) in
    let some : 0 < length rest = omega (arith, other) in
    let long = some_word c.args.text.now rest c.word_len.result c.after_blanks-text.ensures.text some c.word_len.ensures in
    omega (arith, long, c.split_at.ensures.front_len)
