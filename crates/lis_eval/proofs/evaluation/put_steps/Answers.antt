use Rattle.std.proofs.Common.{[], List, reverse, subst, sym, ap, ◌∙◌, arith}
use Rattle.std.specs.List.{fold}
use Rattle.std.proofs.lemmas.List.{take_all, reverse-reverse}
use Rattle.lis_grammar.specs.Formula.{Formula}
use Rattle.lis_place.specs.Nodes.{with_node}
use Rattle.lis_place.proofs.Trees.{steps_of-nodes_of}
use Rattle.lis_eval.specs.Stack.{IsStack}
use Rattle.lis_eval.proofs.evaluation.put_steps.Goals as goal

pub returns-clause-stack : goal.returns-clause-stack
returns-clause-stack g c =
    let v = g.V.View.seen c.args.view.now in
    let nodes = c.nodes-node-items.result.now in
    let all = take_all c.loop-node.node-index nodes (omega arith) in
    let steps = ap (fold with_node []) (all ∙ c.nodes-node-items.ensures.nodes) ∙ (sym (reverse-reverse _) ∙ ap reverse (steps_of-nodes_of c.args.place.now)) in
    subst (λ (fs : List Formula). IsStack v c.loop-node.rows c.loop-node.depth fs) steps c.loop-node.invariant.stack
