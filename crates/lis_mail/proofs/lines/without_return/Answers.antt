use Rattle.std.proofs.Common.{◌∙◌, arith}
use Rattle.std.proofs.lemmas.Grind.{common_steps}
use Rattle.lis_mail.proofs.LineLemmas.{return_dropped, return_kept}
use Rattle.lis_mail.proofs.lines.without_return.Goals as goal

pub returns-then-line-end-ne13-clause-value : goal.returns-then-line-end-ne13-clause-value
returns-then-line-end-ne13-clause-value c = return_kept c.args.line.now _ (grind (arith, common_steps)) c.if-line-end-ne13.true

pub returns-clause-value : goal.returns-clause-value
returns-clause-value c =
    c.split_at.ensures.front ∙ return_dropped c.args.line.now _ (grind (arith, common_steps)) c.if-line-end-ne13.false
