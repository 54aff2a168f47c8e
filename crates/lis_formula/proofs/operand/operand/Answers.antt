use Rattle.std.proofs.Common.{ℕ, List, None, refl, sym, ◌∙◌}
use Rattle.std.proofs.lemmas.Bool.{cond-false}
use Rattle.lis_words.specs.Words.{is_word}
use Rattle.lis_formula.proofs.TestParts.{no_word}
use Rattle.lis_formula.proofs.operand.operand.Goals as goal

pub returns-in-None : goal.returns-in-None
returns-in-None c =
    let text = c.args.text.now in
    c.test.ensures ∙ sym (cond-false (is_word text) _ _ (no_word {A = List ℕ} None (is_word text) c.in-None.ensures.word refl))
