use Rattle.std.proofs.Common.{◌≡◌, ◌+◌, ◌-◌, ◌≤◌, length}
use Rattle.lis_formula.specs.Pieces.{stacked_text}
use Rattle.lis_formula.specs.Printer.{slashed}
use Rattle.lis_formula.proofs.printer.join_all.Given as goal

abbrev pub invariant-loop-pieces : goal.invariant-loop-pieces
invariant-loop-pieces l = record {
  text : slashed l.pieces ≡ slashed l.fn.pieces;
  bytes : length (stacked_text l.pieces) + (length l.pieces - 1) ≤ 1024;
}

abbrev pub decreases-loop-pieces : goal.decreases-loop-pieces
decreases-loop-pieces l = length l.pieces
