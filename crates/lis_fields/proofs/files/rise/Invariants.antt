use Rattle.std.proofs.Common.{◌≡◌, drop, nat_cmp}
use Rattle.lis_graph.specs.Graph.{is_rising}
use Rattle.lis_fields.proofs.Runs.{rises_from}
use Rattle.lis_fields.proofs.files.rise.Given as goal

abbrev pub invariant-loop-number : goal.invariant-loop-number
invariant-loop-number l = rises_from l.floor (drop l.number-index l.numbers) ≡ is_rising nat_cmp l.numbers
