use Rattle.std.proofs.Common.{◌≡◌, ◌+◌, ◌==◌, drop}
use Rattle.std.specs.List.{prefix_len}
use Rattle.lis_journal.proofs.mount.count_open.Given as goal

abbrev pub invariant-loop-gate : goal.invariant-loop-gate
invariant-loop-gate l = record {
  counted : l.count ≡ l.gate-index;
  rest : prefix_len (λ gate. gate == 1) l.gates ≡ l.count + prefix_len (λ gate. gate == 1) (drop l.gate-index l.gates);
}
