use Rattle.std.proofs.Common.{◌≡◌, false, ◌-◌}
use Rattle.std.specs.List.{list_any, range_with_len}
use Rattle.lis_mail.specs.Header.{ends_empty}
use Rattle.lis_mail.proofs.ending.has_end_from.Given as goal

abbrev pub invariant-loop-at : goal.invariant-loop-at
invariant-loop-at l = list_any (ends_empty l.bytes) (range_with_len l.seen (l.at - l.seen)) ≡ false
