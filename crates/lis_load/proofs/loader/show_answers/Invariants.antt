use Rattle.std.proofs.Common.{drop}
use Rattle.std.specs.List.{flat_map}
use Rattle.lis_session.proofs.InTurn.{TextSoFar}
use Rattle.lis_load.specs.Loading.{answer}
use Rattle.lis_load.proofs.loader.show_answers.Given as goal

abbrev pub invariant-loop-refused : goal.invariant-loop-refused
invariant-loop-refused g l =
    TextSoFar (flat_map answer l.fn.held) (flat_map answer (drop l.refused-index l.held)) (g.T.Disk.meaning l.fn.station) (g.T.Disk.meaning l.station)
