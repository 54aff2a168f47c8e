use Rattle.lis_open.proofs.Common.{sym, eq-eqb, ne_eqb}
use Rattle.lis_kept.proofs.InArea.{early_sets, third_sets}
use Rattle.lis_open.proofs.checks.set_count.Goals as goal

pub returns-then-limits-eq3 : goal.returns-then-limits-eq3
returns-then-limits-eq3 c = sym (third_sets c.args.limits.now (eq-eqb c.args.limits.now.version 3 c.if-limits-eq3.true))

pub returns-else-limits-eq3 : goal.returns-else-limits-eq3
returns-else-limits-eq3 c = sym (early_sets c.args.limits.now (ne_eqb c.args.limits.now.version 3 c.if-limits-eq3.false))
