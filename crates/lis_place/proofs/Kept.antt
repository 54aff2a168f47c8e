-- What a place keeps, and the steps that it represents.
use Rattle.std.proofs.Common.{◌≡◌, ◌+◌, ◌<◌, true, false, Some, List, ◌++◌, length, ap, sym, subst, ◌∙◌, arith, length-append}
use Rattle.std.proofs.lemmas.Bool.{false≢true}
use Rattle.lis_grammar.specs.Formula.{Formula}
use Rattle.lis_grammar.specs.Places.{IsPlace, without_last}
use Rattle.lis_grammar.proofs.Placed.{without_last_is_place}
use Rattle.lis_place.specs.declared.node.Node.{Node}
use Rattle.lis_place.specs.declared.limits.Tally.{Tally}
use Rattle.lis_place.specs.Nodes.{nodes_of, steps_of}
use Rattle.lis_place.specs.Limits.{tally_after, no_tally, are_place}
use Rattle.lis_place.specs.Steps.{before_last}
use Rattle.lis_place.proofs.Trees.{steps_of-nodes_of, nodes_of-append}
use Rattle.lis_place.proofs.Tallies.{placed_back, placed_forth, node_count, tally_of_steps}
use Rattle.lis_place.proofs.Lasts.{before_last-nodes_of}

pub kept_nodes : (items : List Node) (steps : List Formula) → are_place items ≡ true → steps_of items ≡ steps → items ≡ nodes_of steps
kept_nodes items steps h e = sym (placed_back items h).spelled ∙ ap nodes_of e

pub kept_place : (items : List Node) (steps : List Formula) → are_place items ≡ true → steps_of items ≡ steps → IsPlace steps
kept_place items steps h e = subst (λ fs. IsPlace fs) e (placed_back items h).place

-- nodes that were put together are those of the place that they spell
pub spelled_by : (nodes items : List Node) → items ≡ nodes → are_place nodes ≡ true → nodes ≡ nodes_of (steps_of items)
spelled_by nodes items e h = sym (placed_back nodes h).spelled ∙ ap (λ xs. nodes_of (steps_of xs)) (sym e)

pub place_by : (nodes items : List Node) → items ≡ nodes → are_place nodes ≡ true → IsPlace (steps_of items)
place_by nodes items e h = subst (λ xs. IsPlace (steps_of xs)) (sym e) (placed_back nodes h).place

pub not_kept : (nodes : List Node) → are_place nodes ≡ false → (steps : List Formula) → IsPlace steps → nodes ≡ nodes_of steps → ⊥
not_kept nodes h steps p e = false≢true (sym h ∙ (ap are_place e ∙ placed_forth steps p))

pub trees_of : (nodes : List Node) (t : Tally) → are_place nodes ≡ true → Some t ≡ tally_after no_tally nodes → t.trees ≡ length (steps_of nodes)
trees_of nodes t h e =
    let placed = placed_back nodes h in
    let place = placed.place in
    let counted = ap (λ xs. tally_after no_tally xs) (sym placed.spelled) ∙ tally_of_steps (steps_of nodes) no_tally place.fit in
    let same = same_trees t _ (e ∙ counted) in
    omega (arith, same)
  where
    same_trees : (s t : Tally) → Some s ≡ Some t → s.trees ≡ t.trees
    same_trees s t h = let same : s ≡ t = cc in ap (λ (u : Tally). u.trees) same

-- all steps but the last

pub without_last_kept : (items nodes front : List Node) (steps : List Formula)
    → are_place items ≡ true → steps_of items ≡ steps → nodes ≡ items → front ≡ before_last nodes → front ≡ nodes_of (without_last steps)
without_last_kept items nodes front steps h e same is =
    is ∙ (ap before_last (same ∙ kept_nodes items steps h e) ∙ before_last-nodes_of steps)

pub without_last_place : (items : List Node) (steps : List Formula) → are_place items ≡ true → steps_of items ≡ steps → are_place (nodes_of (without_last steps)) ≡ true
without_last_place items steps h e = placed_forth (without_last steps) (without_last_is_place steps (kept_place items steps h e))

pub kept_steps : (items : List Node) (steps : List Formula) → items ≡ nodes_of steps → steps_of items ≡ steps
kept_steps items steps e = ap steps_of e ∙ steps_of-nodes_of steps

-- the steps of two places together

pub both_nodes : (front behind : List Node) (fs gs : List Formula)
    → are_place front ≡ true → steps_of front ≡ fs → are_place behind ≡ true → steps_of behind ≡ gs → front ++ behind ≡ nodes_of (fs ++ gs)
both_nodes front behind fs gs h e i f =
    ap (λ xs. xs ++ behind) (kept_nodes front fs h e) ∙ (ap (λ xs. nodes_of fs ++ xs) (kept_nodes behind gs i f) ∙ sym (nodes_of-append fs gs))

pub too_many : (front behind : List Node) (fs gs : List Formula)
    → are_place front ≡ true → steps_of front ≡ fs → are_place behind ≡ true → steps_of behind ≡ gs → 64 < length front + length behind → IsPlace (fs ++ gs) → ⊥
too_many front behind fs gs h e i f many p =
    let all = ap length (both_nodes front behind fs gs h e i f) in
    let count = node_count (fs ++ gs) in
    omega (arith, all, count, length-append front behind, p.nodes)
