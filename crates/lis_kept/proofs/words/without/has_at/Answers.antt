use Rattle.std.proofs.Common.{arith}
use Rattle.lis_kept.proofs.Common.{[], ap, sym, get_or_past}
use Rattle.lis_ext.specs.Numbers.{has_number}
use Rattle.lis_kept.proofs.words.without.has_at.Goals as goal

pub returns-then-slot-files : goal.returns-then-slot-files
returns-then-slot-files c =
    let e = c.args.ext.now in
    sym (ap (λ ns. has_number ns c.args.number) (get_or_past e.sets c.args.slot [] (omega arith)))
