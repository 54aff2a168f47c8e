use Rattle.std.proofs.Common.{drop, ap, ◌∙◌}
use Rattle.lis_line.proofs.Words.{blanks_within, blanks_dropped}
use Rattle.lis_line.proofs.line.after_blanks.Goals as goal

pub split_at-requires : goal.split_at-requires
split_at-requires c = blanks_within c.args.text.now c.blanks.result c.blanks.ensures

pub returns-clause-text : goal.returns-clause-text
returns-clause-text c = c.split_at.ensures.back ∙ ap (λ n. drop n c.args.text.now) c.blanks.ensures ∙ blanks_dropped c.args.text.now
