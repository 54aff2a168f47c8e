use Rattle.std.proofs.Common.{◌++◌, drop, ap, ◌∙◌}
use Rattle.lis_grow.specs.Coming.{groups_from}
use Rattle.lis_grow.proofs.Comings.{all_coming}
use Rattle.lis_grow.proofs.source.GrowSource.new.Goals as goal

pub returns : goal.returns
returns c = ap (λ xs. drop 0 xs ++ groups_from c.args.n 0) c.new.ensures ∙ all_coming c.args.n
