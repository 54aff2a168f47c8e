use Rattle.std.proofs.Common.{◌≡◌, ◌+◌, ◌-◌, ◌*◌}
use Rattle.lis_bits.specs.Bytes.{bits_number}
use Rattle.lis_ext.specs.Inside.{has_in}
use Rattle.lis_ext.proofs.by_list.byte_at.Given as goal

-- the byte has the truth values of the last ones of the eight files
abbrev pub invariant-loop-done : goal.invariant-loop-done
invariant-loop-done l = l.byte ≡ bits_number l.done (λ i. has_in l.lists l.prop (8 * l.k + 8 - l.done + i))
