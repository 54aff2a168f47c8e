-- Places as lists of nodes: each operand before its operator, and the left operand before the right one.
use Rattle.std.specs.Prelude.{ℕ, List, [], ◌∷◌, ◌++◌, reverse}
use Rattle.std.specs.List.{flat_map, fold}
use Rattle.lis_grammar.specs.Formula.{Formula}
use Rattle.lis_grammar.specs.Formula.Formula.{Has, SizeAtLeast, SizeBelow, Negation, Both, Either}
use Rattle.lis_grammar.specs.Codes.{negated, combined}
use Rattle.lis_place.specs.declared.node.Node.{Node}
use Rattle.lis_place.specs.declared.node.Node.TheVariants.{Word, AtLeast, Below, Not, And, Or}

abbrev pub tree_node_list : Formula → List Node
tree_node_list (Has word) = Word word ∷ []
tree_node_list (SizeAtLeast n) = AtLeast n ∷ []
tree_node_list (SizeBelow n) = Below n ∷ []
tree_node_list (Negation f) = tree_node_list f ++ Not ∷ []
tree_node_list (Both f g) = (tree_node_list f ++ tree_node_list g) ++ And ∷ []
tree_node_list (Either f g) = (tree_node_list f ++ tree_node_list g) ++ Or ∷ []

-- the nodes of all steps, in order
abbrev pub nodes_of : List Formula → List Node
nodes_of steps = flat_map tree_node_list steps

-- the words of the nodes, in order
abbrev pub node_words : Node → List (List ℕ)
node_words (Word word) = word ∷ []
node_words (AtLeast n) = []
node_words (Below n) = []
node_words Not = []
node_words And = []
node_words Or = []

-- the trees that the nodes make: a stack, the last one first, on which each operator finds its operands
abbrev pub with_node : List Formula → Node → List Formula
with_node stack (Word word) = Has word ∷ stack
with_node stack (AtLeast n) = SizeAtLeast n ∷ stack
with_node stack (Below n) = SizeBelow n ∷ stack
with_node stack Not = negated stack
with_node stack And = combined Both stack
with_node stack Or = combined Either stack

-- the steps that the nodes spell
abbrev pub steps_of : List Node → List Formula
steps_of nodes = reverse (fold with_node [] nodes)
