use Rattle.std.proofs.Common.{◌≡◌, ◌+◌, ◌-◌, ◌*◌, ◌<◌, ◌^◌, take}
use Rattle.std.specs.List.{fold}
use Rattle.lis_words.proofs.forms.digits_value.Given as goal

abbrev pub invariant-loop-digit : goal.invariant-loop-digit
invariant-loop-digit l = record {
  spelled : l.n ≡ fold (λ n digit. 10 * n + (digit - 48)) 0 (take l.digit-index l.digits);
  below : l.n < 10 ^ l.digit-index;
}
