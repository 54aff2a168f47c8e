use Rattle.std.proofs.Common.{rules}
use Rattle.lis_fields.specs.Layouts.{zeros}
use Rattle.lis_fields.proofs.fields.write_zeros.Goals as goal

pub returns : goal.returns
unfolding zeros
returns c = c.fill.ensures.after (λ y e. search rules)
