-- The words of a place by its nodes.
use Rattle.std.specs.Prelude.{Bool, true, false}
use Rattle.lis_place.specs.declared.node.Node.{Node}
use Rattle.lis_place.specs.declared.node.Node.TheVariants.{Word, AtLeast, Below, Not, And, Or}

-- a node of a tree that has only conjunctions and words
abbrev pub is_conjunct : Node → Bool
is_conjunct (Word word) = true
is_conjunct (AtLeast n) = false
is_conjunct (Below n) = false
is_conjunct Not = false
is_conjunct And = true
is_conjunct Or = false
