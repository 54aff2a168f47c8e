use Rattle.lis_open.proofs.Common.{◌≡◌, ◌-◌, ◌^◌, nat_lt, arith, lt-ltb}
use Rattle.lis_laws.proofs.Counts.{all_from}
use Rattle.lis_ext.proofs.Counted.{each_below}
use Rattle.lis_open.proofs.checks.is_set.Goals as goal

pub write_set-requires-clause-small : goal.write_set-requires-clause-small
write_set-requires-clause-small c =
    all_from (λ n. nat_lt n (2 ^ 32 - 1)) c.numbers.result.now
    (λ n m. lt-ltb n (2 ^ 32 - 1) (omega (arith, each_below c.args.ext.now.props c.numbers.result.now c.numbers.ensures.in_range n m, c.numbers.ensures.kept.few_props)))
