use Rattle.std.proofs.Common.{◌≡◌, drop}
use Rattle.std.specs.List.{find}
use Rattle.lis_table.specs.Links.{is_open}
use Rattle.lis_table.proofs.closure.first_open.Given as goal

abbrev pub invariant-loop-pair : goal.invariant-loop-pair
invariant-loop-pair l = find (is_open l.words) (drop l.pair-index l.axioms) ≡ find (is_open l.words) l.axioms
