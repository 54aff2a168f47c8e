-- The nodes before the last tree are those of all steps but the last.
use Rattle.std.proofs.Common.{◌≡◌, ℕ, ◌+◌, suc, List, [], ◌∷◌, ◌++◌, reverse, refl, ap, sym, ◌∙◌, arith, append_assoc, append-nil}
use Rattle.std.proofs.lemmas.List.{reverse-append, reverse-reverse}
use Rattle.lis_grammar.specs.Formula.{Formula}
use Rattle.lis_grammar.specs.Formula.Formula.{Has, SizeAtLeast, SizeBelow, Negation, Both, Either}
use Rattle.lis_grammar.specs.Places.{without_last}
use Rattle.lis_grammar.proofs.Placed.{without_last-append}
use Rattle.lis_place.specs.declared.node.Node.{Node}
use Rattle.lis_place.specs.declared.node.Node.TheVariants.{Word, AtLeast, Below, Not, And, Or}
use Rattle.lis_place.specs.Nodes.{tree_node_list, nodes_of}
use Rattle.lis_place.specs.Steps.{operands, before_trees, before_last}
use Rattle.lis_place.proofs.Trees.{nodes_of-append}

one_operand : (wanted : ℕ) (node : Node) (nodes : List Node) → operands node ≡ 0 → before_trees (suc wanted) (node ∷ nodes) ≡ before_trees wanted nodes
one_operand wanted node nodes e = ap (λ n. before_trees n nodes) (none wanted (operands node) e)
  where
    none : (w n : ℕ) → n ≡ 0 → w + n ≡ w
    none w n e = omega arith

turned : (front rest : List Node) (node : Node) → reverse (front ++ node ∷ []) ++ rest ≡ node ∷ (reverse front ++ rest)
turned front rest node = ap (λ xs. xs ++ rest) (reverse-append front (node ∷ []))

turned_pair : (left right rest : List Node) (node : Node) → reverse ((left ++ right) ++ node ∷ []) ++ rest ≡ node ∷ (reverse right ++ (reverse left ++ rest))
turned_pair left right rest node =
    turned (left ++ right) rest node
    ∙ ap (λ xs. node ∷ xs) (ap (λ xs. xs ++ rest) (reverse-append left right) ∙ append_assoc (reverse right) (reverse left) rest)

plus_one : (w : ℕ) → w + 1 ≡ suc w
plus_one w = omega arith

plus_two : (w : ℕ) → w + 2 ≡ suc (suc w)
plus_two w = omega arith

before_tree : (f : Formula) (wanted : ℕ) (rest : List Node) → before_trees (suc wanted) (reverse (tree_node_list f) ++ rest) ≡ before_trees wanted rest
before_tree (Has word) wanted rest = one_operand wanted (Word word) rest refl
before_tree (SizeAtLeast n) wanted rest = one_operand wanted (AtLeast n) rest refl
before_tree (SizeBelow n) wanted rest = one_operand wanted (Below n) rest refl
before_tree (Negation f) wanted rest =
    ap (λ xs. before_trees (suc wanted) xs) (turned (tree_node_list f) rest Not)
    ∙ (ap (λ n. before_trees n (reverse (tree_node_list f) ++ rest)) (plus_one wanted) ∙ before_tree f wanted rest)
before_tree (Both f g) wanted rest =
    ap (λ xs. before_trees (suc wanted) xs) (turned_pair (tree_node_list f) (tree_node_list g) rest And)
    ∙ (ap (λ n. before_trees n (reverse (tree_node_list g) ++ (reverse (tree_node_list f) ++ rest))) (plus_two wanted)
    ∙ (before_tree g (suc wanted) (reverse (tree_node_list f) ++ rest) ∙ before_tree f wanted rest))
before_tree (Either f g) wanted rest =
    ap (λ xs. before_trees (suc wanted) xs) (turned_pair (tree_node_list f) (tree_node_list g) rest Or)
    ∙ (ap (λ n. before_trees n (reverse (tree_node_list g) ++ (reverse (tree_node_list f) ++ rest))) (plus_two wanted)
    ∙ (before_tree g (suc wanted) (reverse (tree_node_list f) ++ rest) ∙ before_tree f wanted rest))

before_step : (steps : List Formula) (f : Formula) → before_last (nodes_of (steps ++ f ∷ [])) ≡ nodes_of steps
before_step steps f =
    let tree = tree_node_list f in
    let whole : nodes_of (steps ++ f ∷ []) ≡ nodes_of steps ++ tree = nodes_of-append steps (f ∷ []) ∙ ap (λ xs. nodes_of steps ++ xs) (append-nil tree) in
    ap before_last whole
    ∙ (ap (λ xs. reverse (before_trees 1 xs)) (reverse-append (nodes_of steps) tree)
    ∙ (ap reverse (before_tree f 0 (reverse (nodes_of steps))) ∙ reverse-reverse (nodes_of steps)))

record HasLast (steps : List Formula) : Type 0 where
  front : List Formula
  last : Formula
  whole : steps ≡ front ++ last ∷ []

has_last : (f : Formula) (steps : List Formula) → HasLast (f ∷ steps)
has_last f [] = record { front = []; last = f; whole = refl }
has_last f (g ∷ steps) = let more = has_last g steps in record { front = f ∷ more.front; last = more.last; whole = ap (λ xs. f ∷ xs) more.whole }

pub before_last-nodes_of : (steps : List Formula) → before_last (nodes_of steps) ≡ nodes_of (without_last steps)
before_last-nodes_of [] = refl
before_last-nodes_of (f ∷ steps) =
    let has = has_last f steps in
    ap (λ xs. before_last (nodes_of xs)) has.whole
    ∙ (before_step has.front has.last ∙ ap nodes_of (sym (without_last-append has.front has.last) ∙ sym (ap without_last has.whole)))
