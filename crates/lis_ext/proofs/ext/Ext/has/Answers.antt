use Rattle.std.proofs.Common.{ap, ◌∙◌}
use Rattle.lis_ext.specs.Numbers.{has_number}
use Rattle.lis_ext.proofs.ext.Ext.has.Goals as goal

pub returns : goal.returns
returns c = rw (← c.self.view_is) (c.is_among.ensures ∙ ap (λ numbers. has_number numbers c.args.prop) c.numbers.ensures.numbers)
