use Rattle.std.proofs.Common.{◌<◌, length, get_or, ◌∙◌, ap, sym, arith}
use Rattle.std.proofs.lemmas.Bool.{eqb-false}
use Rattle.lis_line.proofs.Words.{return_dropped, no_return}
use Rattle.lis_line.proofs.line.without_return.Goals as goal

pub returns-then-last-eq13-clause-line : goal.returns-then-last-eq13-clause-line
returns-then-last-eq13-clause-line c =
    let other = eqb-false (length c.args.line.now) 0 (sym c.if-is_empty.ensures) in
    let some : 0 < length c.args.line.now = omega (arith, other) in
    c.split_at.ensures.front
    ∙ return_dropped c.args.line.now some (ap (λ xs. get_or xs 0 0) (sym c.split_at.ensures.back) ∙ c.if-last-eq13.true)

pub returns-else-last-eq13-clause-line : goal.returns-else-last-eq13-clause-line
returns-else-last-eq13-clause-line c =
    no_return c.args.line.now (λ is. c.if-last-eq13.false (ap (λ xs. get_or xs 0 0) c.split_at.ensures.back ∙ is))
