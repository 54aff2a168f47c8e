use Rattle.std.proofs.Common.{◌≡◌, ◌+◌, ◌≤◌, [], length, take, drop, fold}
use Rattle.lis_formula.specs.Pieces.{stacked_text}
use Rattle.lis_formula.specs.Printer.{all_bytes, with_text}
use Rattle.lis_formula.proofs.printer.put_all.Given as goal

abbrev pub invariant-loop-node : goal.invariant-loop-node
invariant-loop-node l = record {
  text : l.pieces ≡ fold with_text [] (take l.node-index l.nodes);
  bytes : length (stacked_text l.pieces) + all_bytes (drop l.node-index l.nodes) ≤ 1024;
  count : length l.pieces ≤ l.node-index;
}
