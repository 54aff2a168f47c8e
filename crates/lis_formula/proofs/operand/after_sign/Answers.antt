use Rattle.std.proofs.Common.{◌≡◌, ◌+◌, ℕ, true, false, nat_eq, Some, None, Option, List, take, drop, length, ap, sym, ◌∙◌, MatchOption, Bor}
use Rattle.std.specs.Cmp.Lexicographic.{pointwise}
use Rattle.lis_grammar.specs.Machine.{after_sign}
use Rattle.lis_formula.proofs.TestParts.{after_sign_some, after_sign_none}
use Rattle.lis_formula.proofs.operand.after_sign.Goals as goal

stripped : (sign text : List ℕ) (found : Option (Bor (List ℕ)))
    → MatchOption found (pointwise nat_eq (take (length sign) text) sign ≡ false)
    (λ x. (pointwise nat_eq (take (length sign) text) sign ≡ true) × (x.now ≡ drop (length sign) text) × (length x.now + length sign ≡ length text))
    → MatchOption found (after_sign sign text ≡ None) (λ rest. after_sign sign text ≡ Some rest.now)
stripped sign text None h = after_sign_none sign text h
stripped sign text (Some rest) h = after_sign_some sign text h.0 ∙ ap (λ xs. Some xs) (sym h.1)

pub returns : goal.returns
returns c = stripped c.args.sign.now c.args.text.now c.strip_prefix.result c.strip_prefix.ensures.cases
