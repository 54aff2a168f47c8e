use Rattle.lis_kept.proofs.Common.{◌∙◌, nat_lt, ap, sym}
use Rattle.lis_kept.proofs.Without.{had_twice, had_once}
use Rattle.lis_kept.proofs.words.without.is_had_without.Goals as goal

pub returns-then-has_at : goal.returns-then-has_at
returns-then-has_at c =
    let e = c.args.ext.now in
    ap (nat_lt 1) c.count-count.ensures ∙ had_twice e c.args.slot c.args.number (sym c.has_at.ensures ∙ c.if-has_at.true)

pub returns : goal.returns
returns c =
    let e = c.args.ext.now in
    ap (nat_lt 0) c.count-count.ensures ∙ had_once e c.args.slot c.args.number (sym c.has_at.ensures ∙ c.if-has_at.false)
