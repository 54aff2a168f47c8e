-- Truth of a place by its nodes: a stack of truth values, the last first.
use Rattle.std.specs.Prelude.{nat_lt, nat_le, Bool, false, not, ◌&&◌, ◌||◌, List, [], ◌∷◌}
use Rattle.lis_words.specs.Words.{has_word}
use Rattle.lis_place.specs.declared.node.Node.{Node}
use Rattle.lis_place.specs.declared.node.Node.TheVariants.{Word, AtLeast, Below, Not, And, Or}
use Rattle.lis_model.specs.Table.{Entry}

abbrev pub last_value : List Bool → Bool
last_value [] = false
last_value (value ∷ stack) = value

abbrev pub below_last : List Bool → List Bool
below_last [] = []
below_last (value ∷ stack) = stack

abbrev pub with_value : Entry → List Bool → Node → List Bool
with_value file stack (Word word) = has_word file.words word ∷ stack
with_value file stack (AtLeast n) = nat_le n file.size ∷ stack
with_value file stack (Below n) = nat_lt file.size n ∷ stack
with_value file stack Not = not (last_value stack) ∷ below_last stack
with_value file stack And = (last_value (below_last stack) && last_value stack) ∷ below_last (below_last stack)
with_value file stack Or = (last_value (below_last stack) || last_value stack) ∷ below_last (below_last stack)
