use Rattle.std.proofs.Common.{◌≡◌, ◌+◌, ◌-◌, ◌^◌, nat_lt, length, map, take, IsTrue}
use Rattle.std.specs.List.{list_all}
use Rattle.lis_fields.proofs.sets.read_next.Given as goal

abbrev pub invariant-loop-next : goal.invariant-loop-next
invariant-loop-next l =
    (length l.numbers.items ≡ l.next-index) × (take l.next-index l.held ≡ map (λ n. n + 1) l.numbers.items)
    × IsTrue (list_all (λ n. nat_lt n (2 ^ 32 - 1)) l.numbers.items)
