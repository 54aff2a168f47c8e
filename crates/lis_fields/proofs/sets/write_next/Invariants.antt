use Rattle.std.proofs.Common.{◌≡◌, ◌+◌, ◌*◌, take}
use Rattle.std.specs.List.{flat_map}
use Rattle.byteorder.specs.Endian.{little_bytes}
use Rattle.lis_fields.proofs.sets.write_next.Given as goal

abbrev pub invariant-loop-k : goal.invariant-loop-k
invariant-loop-k l = take (4 * l.k) l.bytes ≡ flat_map (λ n. little_bytes 4 (n + 1)) (take l.k l.numbers)
