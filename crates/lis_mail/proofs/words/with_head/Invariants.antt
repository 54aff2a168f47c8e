use Rattle.std.proofs.Common.{◌≡◌, take}
use Rattle.lis_transducers.specs.Mail.{with_head}
use Rattle.lis_mail.proofs.words.with_head.Given as goal

abbrev pub invariant-loop-byte : goal.invariant-loop-byte
invariant-loop-byte l = l.joined.items ≡ with_head l.head (take l.byte-index l.bytes)
