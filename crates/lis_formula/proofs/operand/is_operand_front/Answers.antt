use Rattle.std.proofs.Common.{◌≡◌, true, false, codes, sym, ap, ◌∙◌}
use Rattle.lis_words.specs.Words.{is_word}
use Rattle.lis_grammar.specs.Machine.{is_test_front}
use Rattle.lis_formula.proofs.TestParts.{second, third}
use Rattle.lis_formula.proofs.operand.is_operand_front.Goals as goal

pub returns-then-is_test_front : goal.returns-then-is_test_front
returns-then-is_test_front c =
    let text = c.args.text.now in
    let test : is_test_front (codes "size>=") text ≡ true =
    ap (λ sign. is_test_front sign text) (sym c.as_slice.ensures) ∙ (sym c.is_test_front.ensures ∙ c.if-is_test_front.true) in
    second (is_word text) (is_test_front (codes "size>=") text) (is_test_front (codes "size<") text) test

pub returns : goal.returns
returns c =
    let text = c.args.text.now in
    let words : is_word text ≡ false = sym c.is_word.ensures ∙ c.if-is_word.false in
    let test : is_test_front (codes "size>=") text ≡ false =
    ap (λ sign. is_test_front sign text) (sym c.as_slice.ensures) ∙ (sym c.is_test_front.ensures ∙ c.if-is_test_front.false) in
    c.is_test_front-2.ensures ∙ (ap (λ sign. is_test_front sign text) c.as_slice-2.ensures
    ∙ third (is_word text) (is_test_front (codes "size>=") text) (is_test_front (codes "size<") text) words test)
