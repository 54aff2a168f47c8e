use Rattle.lis_open.proofs.Common.{◌≡◌, ◌∙◌, ◌-◌, ◌*◌, ◌/◌, sym, ap, arith, eq-eqb, ne_eqb}
use Rattle.lis_model.specs.Image.{description_blocks}
use Rattle.lis_kept.proofs.InArea.{early_rows, third_rows}
use Rattle.lis_open.proofs.Lefts.{few_rows}
use Rattle.lis_open.proofs.checks.row_count.Goals as goal

pub returns-then-limits-eq3 : goal.returns-then-limits-eq3
returns-then-limits-eq3 c = sym (third_rows c.args.limits.now (eq-eqb c.args.limits.now.version 3 c.if-limits-eq3.true))

pub overflow_mul-result : goal.overflow_mul-result
overflow_mul-result c =
    let limits = c.args.limits.now in
    let same : c.bitmap_start.result - c.descriptions_start.result ≡ description_blocks limits = omega (arith, c.bitmap_start.ensures, c.descriptions_start.ensures) in
    omega (arith, few_rows limits c.requires (ne_eqb limits.version 3 c.if-limits-eq3.false), ap (λ n. 4096 / (limits.files / 8) * n) same)

pub returns : goal.returns
returns c =
    let limits = c.args.limits.now in
    let same : c.bitmap_start.result - c.descriptions_start.result ≡ description_blocks limits = omega (arith, c.bitmap_start.ensures, c.descriptions_start.ensures) in
    ap (λ n. 4096 / (limits.files / 8) * n) same ∙ sym (early_rows limits (ne_eqb limits.version 3 c.if-limits-eq3.false))
