use Rattle.std.proofs.Common.{◌≡◌, ◌++◌, ◌∷◌, [], length, arith, sym, ◌∙◌, length-append}
use Rattle.std.proofs.lemmas.Bool.{eqb-true, cond-false}
use Rattle.lis_grammar.specs.Machine.{is_operand_front}
use Rattle.lis_grammar.proofs.Operands.{too_long}
use Rattle.lis_formula.proofs.reader.Reader.grow.Goals as goal

pub returns-then-is_full-clause-walk : goal.returns-then-is_full-clause-walk
returns-then-is_full-clause-walk c =
    let before = c.args.self.now.inside.items in
    let text = before ++ c.args.byte ∷ [] in
    let full : length before ≡ 60 = eqb-true (length before) 60 (sym c.is_full.ensures.value ∙ c.if-is_full.true) in
    cond-false (is_operand_front text) _ _ (too_long text (omega (arith, full, length-append before (c.args.byte ∷ []))))
