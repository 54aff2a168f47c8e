use Rattle.std.proofs.Common.{◌≡◌, ◌+◌, true, false, ◌&&◌, take, drop, sym, ap, ◌∙◌, rules}
use Rattle.std.proofs.lemmas.Bool.{and_left}
use Rattle.lis_views.specs.Edits.{is_numeral}
use Rattle.lis_cuts.proofs.Numerals.{no_blank, blank_at}
use Rattle.lis_cuts.proofs.forms.are_numerals.Goals as goal

pub returns-in_default : goal.returns-in_default
returns-in_default c = sym (no_blank c.args.text.now (rw c.in_default.is at c.memchr.ensures))

pub returns-then-not-is_numeral : goal.returns-then-not-is_numeral
returns-then-not-is_numeral c =
    let text = c.args.text.now in
    let none : c.is_numeral.result ≡ false = search rules in
    let number : is_numeral (take c.in-Some.space text) ≡ false = sym (c.is_numeral.ensures ∙ ap is_numeral c.split_at.ensures.front) ∙ none in
    sym (blank_at text c.in-Some.space c.in-Some.ensures ∙ and_left _ _ number)

pub returns : goal.returns
returns c =
    let text = c.args.text.now in
    let formed : c.is_numeral.result ≡ true = search rules in
    let number : is_numeral (take c.in-Some.space text) ≡ true = sym (c.is_numeral.ensures ∙ ap is_numeral c.split_at.ensures.front) ∙ formed in
    c.is_numeral-2.ensures ∙ ap is_numeral c.split_at-2.ensures.back
    ∙ sym (blank_at text c.in-Some.space c.in-Some.ensures ∙ ap (λ t. t && is_numeral (drop (c.in-Some.space + 1) text)) number)
