use Rattle.lis_open.proofs.Lefts.{zeros_decide}
use Rattle.lis_open.proofs.checks.is_row.Goals as goal

pub returns-then-number-limits : goal.returns-then-number-limits
returns-then-number-limits c =
    zeros_decide c.args.ext.now c.args.limits.now.files c.args.number c.args.bytes.now c.are_zeros.result c.requires.files c.requires.width
    (λ slot. c.requires.rest c.args.number slot c.if-number-limits.true) c.are_zeros.ensures
