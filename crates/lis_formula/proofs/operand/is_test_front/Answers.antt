use Rattle.std.proofs.Common.{sym, ◌∙◌}
use Rattle.lis_formula.proofs.TestParts.{digits_front, front_behind, front_within}
use Rattle.lis_formula.proofs.operand.is_test_front.Goals as goal

pub returns-in-Some : goal.returns-in-Some
returns-in-Some c =
    c.is_digits_front.ensures ∙ (digits_front c.in-Some.digits.now ∙ sym (front_behind c.args.sign.now c.args.text.now c.in-Some.digits.now c.in-Some.ensures))

pub returns-in-None : goal.returns-in-None
returns-in-None c = c.starts_with.ensures.value ∙ sym (front_within c.args.sign.now c.args.text.now c.in-None.ensures)
