-- Where the last tree of a list of nodes begins, read from the end.
use Rattle.std.specs.Prelude.{ℕ, ◌+◌, zero, suc, List, [], ◌∷◌, reverse}
use Rattle.lis_place.specs.declared.node.Node.{Node}
use Rattle.lis_place.specs.declared.node.Node.TheVariants.{Word, AtLeast, Below, Not, And, Or}

-- how many trees before a node are its operands
abbrev pub operands : Node → ℕ
operands (Word word) = 0
operands (AtLeast n) = 0
operands (Below n) = 0
operands Not = 1
operands And = 2
operands Or = 2

-- what is before this many trees, all read from the end
abbrev pub before_trees : ℕ → List Node → List Node
before_trees zero nodes = nodes
before_trees (suc wanted) [] = []
before_trees (suc wanted) (node ∷ nodes) = before_trees (wanted + operands node) nodes

abbrev pub before_last : List Node → List Node
before_last nodes = reverse (before_trees 1 (reverse nodes))
