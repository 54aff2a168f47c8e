-- A place's text as the printer puts it together: a text for each tree so far, the last first.
use Rattle.std.specs.Prelude.{ℕ, ◌+◌, List, [], ◌∷◌, ◌++◌, length, codes, sum_by}
use Rattle.std.specs.Fmt.{decimal}
use Rattle.lis_words.specs.Bytes.{bar_byte}
use Rattle.lis_place.specs.declared.node.Node.{Node}
use Rattle.lis_place.specs.declared.node.Node.TheVariants.{Word, AtLeast, Below, Not, And, Or}
use Rattle.lis_formula.specs.Pieces.{with_front, with_end, with_joint}

-- how many bytes a node adds
abbrev pub node_bytes : Node → ℕ
node_bytes (Word word) = length word
node_bytes (AtLeast n) = 6 + length (decimal n)
node_bytes (Below n) = 5 + length (decimal n)
node_bytes Not = 1
node_bytes And = 3
node_bytes Or = 3

abbrev pub all_bytes : List Node → ℕ
all_bytes nodes = sum_by node_bytes nodes

-- the last two texts in parentheses, with a sign between them
abbrev pub wrapped : ℕ → List (List ℕ) → List (List ℕ)
wrapped sign stack = with_end (41 ∷ []) (with_front 40 (with_joint sign stack))

abbrev pub with_text : List (List ℕ) → Node → List (List ℕ)
with_text stack (Word word) = word ∷ stack
with_text stack (AtLeast n) = (codes "size>=" ++ decimal n) ∷ stack
with_text stack (Below n) = (codes "size<" ++ decimal n) ∷ stack
with_text stack Not = with_front 33 stack
with_text stack And = wrapped 47 stack
with_text stack Or = wrapped bar_byte stack

-- the last text, after all others with a slash after each
abbrev pub chained : List (List ℕ) → List ℕ → List ℕ
chained [] text = text
chained (before ∷ stack) text = chained stack (before ++ 47 ∷ text)

abbrev pub slashed : List (List ℕ) → List (List ℕ)
slashed [] = []
slashed (text ∷ stack) = chained stack text ∷ []
