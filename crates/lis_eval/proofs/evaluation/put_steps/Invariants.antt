use Rattle.std.proofs.Common.{◌≡◌, ℕ, ◌≤◌, [], take}
use Rattle.std.specs.List.{fold}
use Rattle.lis_bits.specs.Rows.{HasShape, get}
use Rattle.lis_place.specs.Nodes.{with_node}
use Rattle.lis_eval.specs.Stack.{IsStack}
use Rattle.lis_eval.proofs.evaluation.put_steps.Given as goal

abbrev pub invariant-loop-node : goal.invariant-loop-node
invariant-loop-node g l = record {
  stack : IsStack (g.V.View.seen l.view) l.rows l.depth (fold with_node [] (take l.node-index l.node-items));
  deep : l.depth ≤ l.node-index;
  shape : HasShape l.rows 65 l.files;
  first : (bit : ℕ) → get l.rows 0 bit ≡ get l.fn.rows 0 bit;
}
